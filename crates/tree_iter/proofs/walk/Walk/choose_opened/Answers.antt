use Rattle.std.proofs.Common.{◌≡◌, ◌+◌, ◌<◌, ◌++◌, List, length, take, refl, sym, ap, subst, arith}
use Rattle.forest_laws.specs.Goals.{Goal, IsGoal, options}
use Rattle.tree_iter.specs.declared.walk.Choice.{Choice}
use Rattle.tree_iter.specs.declared.walk.Walk.{Walk}
use Rattle.tree_iter.specs.Goals.{fork_of, look, PutsOption}
use Rattle.tree_iter.specs.Walk.{Chose, IsOn, HasSteps, GoesFurther}
use Rattle.tree_iter.proofs.Choosing.{first_on, cut_first, chose_one, chose_only}
use Rattle.tree_iter.proofs.Walks.{fork_goal, put_steps}
use Rattle.tree_iter.proofs.Further.{put_further}
use Rattle.tree_iter.proofs.walk.Walk.choose_opened.Goals.{then-put-gt1+in-Ok-push, else-put-gt1}
use Rattle.tree_iter.proofs.walk.Walk.choose_opened.Goals as goal

pub put_option-requires-clause-goal : goal.put_option-requires-clause-goal
put_option-requires-clause-goal c = subst (IsGoal c.args.self.now.forest.now) (sym c.requires.is) (fork_goal c.args.self.now c.args.fork c.args.behind c.requires.about)

pub put_option-requires-clause-at : goal.put_option-requires-clause-at
put_option-requires-clause-at c = subst (λ (g : Goal). c.args.at < length (options c.args.self.now.forest.now g)) (sym c.requires.is) c.requires.at

pub returns-clause-chooses : goal.returns-clause-chooses
returns-clause-chooses c = λ lists trail others h.
    let w : Walk = c.args.self.now in
    let v : Walk = record w { goals = c.truncate.new.self } in
    let first = cut_first w v lists trail (fork_of c.args.fork) c.args.behind others c.kept-kept.result c.kept-kept.ensures c.truncate.ensures.items (first_on w lists trail (fork_of c.args.fork) c.args.behind others c.requires.about h) in
    let put = subst (λ (g : Goal). PutsOption w.forest.now g c.truncate.new.self.items c.put_option.new.rows.items c.args.at c.args.behind c.in-Ok.put) c.requires.is c.in-Ok.ensures.ok in
    record {
      option = put.option;
      option_is = put.option_is;
      on = elim c.if-put-gt1.branch as (λ _. IsOn (record c.if-put-gt1.self { left = c.in-Ok.put.top }) lists (Chose trail (fork_of c.args.fork) c.args.at others) (put.option ++ others)) [
        | then-put-gt1+in-Ok-push b ↦
            let choice : Choice = record { fork = c.args.fork; chosen = c.args.at; count = c.in-Ok.put.count; behind = c.args.behind; goals = length c.as_slice-goals.result.now; steps = length b.as_slice.result.now; counts = length b.as_slice-then-put-gt1.result.now } in
            subst (λ (x : Walk). IsOn (record x { left = c.in-Ok.put.top }) lists (Chose trail (fork_of c.args.fork) c.args.at others) (put.option ++ others)) (sym b.self-is)
            (chose_one v (record v { goals = c.put_option.new.rows; choices = b.push.new.self }) lists trail (fork_of c.args.fork) c.args.at c.args.behind others choice c.in-Ok.put first
            (record { goal_is = refl; chosen_is = refl; behind_is = refl; goals = ap (λ (l : List _). length l) c.as_slice-goals.ensures.value; steps = ap (λ (l : List _). length l) b.as_slice.ensures.value; counts = ap (λ (l : List _). length l) b.as_slice-then-put-gt1.ensures.value })
            refl b.in-Ok-push.ensures.items put)
        | else-put-gt1 b ↦
            let one = b.if-put-gt1.false in
            subst (λ (x : Walk). IsOn (record x { left = c.in-Ok.put.top }) lists (Chose trail (fork_of c.args.fork) c.args.at others) (put.option ++ others)) (sym b.self-is)
            (chose_only v (record v { goals = c.put_option.new.rows }) lists trail (fork_of c.args.fork) c.args.at c.args.behind others c.in-Ok.put first (omega arith) refl put)
      ];
    }

pub returns-clause-steps : goal.returns-clause-steps
returns-clause-steps c = λ m h.
    let w : Walk = c.args.self.now in
    let k = c.kept-kept.result in
    let rows = c.truncate.ensures.items in
    let own = subst (λ (g : Goal). PutsOption w.forest.now g c.truncate.new.self.items c.put_option.new.rows.items c.args.at c.args.behind c.in-Ok.put) c.requires.is c.in-Ok.ensures.ok in
    let put : (n : Walk) → n.counts.items ≡ w.counts.items → n.left ≡ c.in-Ok.put.top → n.goals.items ≡ c.put_option.new.rows.items → HasSteps n (m + look (fork_of c.args.fork)) = (λ n counts left goals.
    put_steps w n (fork_of c.args.fork) c.args.at c.args.behind k c.in-Ok.put c.requires.about counts left c.kept-kept.ensures.0
    (subst (λ g. PutsOption w.forest.now (fork_of c.args.fork) (take k w.goals.items) g c.args.at c.args.behind c.in-Ok.put) (sym goals)
    (subst (λ g. PutsOption w.forest.now (fork_of c.args.fork) g c.put_option.new.rows.items c.args.at c.args.behind c.in-Ok.put) rows own)) m h) in
    elim c.if-put-gt1.branch as (λ _. HasSteps (record c.if-put-gt1.self { left = c.in-Ok.put.top }) (m + look (fork_of c.args.fork))) [
      | then-put-gt1+in-Ok-push b ↦ put (record c.if-put-gt1.self { left = c.in-Ok.put.top }) (ap (λ (x : Walk). x.counts.items) b.self-is) refl (ap (λ (x : Walk). x.goals.items) b.self-is)
      | else-put-gt1 b ↦ put (record c.if-put-gt1.self { left = c.in-Ok.put.top }) (ap (λ (x : Walk). x.counts.items) b.self-is) refl (ap (λ (x : Walk). x.goals.items) b.self-is)
    ]

pub returns-clause-further : goal.returns-clause-further
returns-clause-further c =
    let w : Walk = c.args.self.now in
    let k = c.kept-kept.result in
    let rows = c.truncate.ensures.items in
    let own = subst (λ (g : Goal). PutsOption w.forest.now g c.truncate.new.self.items c.put_option.new.rows.items c.args.at c.args.behind c.in-Ok.put) c.requires.is c.in-Ok.ensures.ok in
    let put : (n : Walk) → n.counts.items ≡ w.counts.items → n.left ≡ c.in-Ok.put.top → n.goals.items ≡ c.put_option.new.rows.items → GoesFurther w n = (λ n counts left goals.
    put_further w n (fork_of c.args.fork) c.args.at c.args.behind k c.in-Ok.put c.requires.about counts left c.kept-kept.ensures.0
    (subst (λ g. PutsOption w.forest.now (fork_of c.args.fork) (take k w.goals.items) g c.args.at c.args.behind c.in-Ok.put) (sym goals)
    (subst (λ g. PutsOption w.forest.now (fork_of c.args.fork) g c.put_option.new.rows.items c.args.at c.args.behind c.in-Ok.put) rows own))) in
    elim c.if-put-gt1.branch as (λ _. GoesFurther w (record c.if-put-gt1.self { left = c.in-Ok.put.top })) [
      | then-put-gt1+in-Ok-push b ↦ put (record c.if-put-gt1.self { left = c.in-Ok.put.top }) (ap (λ (x : Walk). x.counts.items) b.self-is) refl (ap (λ (x : Walk). x.goals.items) b.self-is)
      | else-put-gt1 b ↦ put (record c.if-put-gt1.self { left = c.in-Ok.put.top }) (ap (λ (x : Walk). x.counts.items) b.self-is) refl (ap (λ (x : Walk). x.goals.items) b.self-is)
    ]

pub returns-clause-forest : goal.returns-clause-forest
returns-clause-forest c =
    elim c.if-put-gt1.branch as (λ _. c.if-put-gt1.self.forest ≡ c.args.self.now.forest) [
      | then-put-gt1+in-Ok-push b ↦ ap (λ (x : Walk). x.forest) b.self-is
      | else-put-gt1 b ↦ ap (λ (x : Walk). x.forest) b.self-is
    ]

pub returns-clause-steps_kept : goal.returns-clause-steps_kept
returns-clause-steps_kept c =
    elim c.if-put-gt1.branch as (λ _. (c.if-put-gt1.self.steps ≡ c.args.self.now.steps) × (c.if-put-gt1.self.counts ≡ c.args.self.now.counts)) [
      | then-put-gt1+in-Ok-push b ↦ (ap (λ (x : Walk). x.steps) b.self-is, ap (λ (x : Walk). x.counts) b.self-is)
      | else-put-gt1 b ↦ (ap (λ (x : Walk). x.steps) b.self-is, ap (λ (x : Walk). x.counts) b.self-is)
    ]
