-- Steps that are written and counted, when one more is, or when some are undone.
use Rattle.std.proofs.Common.{◌≡◌, ℕ, zero, suc, ◌+◌, ◌<◌, ◌≤◌, List, [], ◌∷◌, ◌++◌, length, map, take, inl, inr, ◌⊎◌, Some, refl, sym, ap, ◌∙◌, subst, append_assoc, length-append, arith}
use Rattle.std.specs.Prelude.{Bool, true, false, cond, sum, slice_get, option_to_list}
use Rattle.std.proofs.Math.Seq.{take-append_seam, take-length}
use Rattle.std.proofs.lemmas.List.{take-append-le, append_assoc, map-append, length-take-le, take_more}
use Rattle.std.proofs.lemmas.List.Sums.{sum_by-cons}
use Rattle.finite_sets.proofs.Members.{contains_from}
use Rattle.finite_sets.proofs.Lists.{get_among, got_at}
use Rattle.grammar_core.specs.declared.steps.TreeStep.{TreeStep}
use Rattle.grammar_core.specs.Steps.{step_of}
use Rattle.grammar_model.specs.declared.id.RuleId.{RuleId}
use Rattle.grammar_model.specs.Grammar.{Grammar}
use Rattle.grammar_model.specs.Steps.{Step, TokenStep, NulledStep, RuleStep}
use Rattle.recognizer_model.specs.declared.flat.FlatSymbol.{FlatSymbol}
use Rattle.recognizer_model.specs.declared.flat.FlatSymbol.TheVariants.{Terminal, Slot, Sequence, Top}
use Rattle.recognizer_model.specs.Flat.{FlatGrammar, lhs_of}
use Rattle.recognizer_model.specs.FlatForm.{IsFlatOf, symbol_at, written_symbol, is_list}
use Rattle.forest_laws.specs.Written.{sum_newest, older, is_list_rule, step_written, counts_after, steps_written}
use Rattle.flat_steps.specs.declared.writing.CountRow.{CountRow}
use Rattle.flat_steps.specs.declared.writing.FlatStep.{FlatStep}
use Rattle.flat_steps.specs.declared.writing.Effect.{Effect}
use Rattle.flat_steps.specs.Writing.{flat_step, IsCounted, AreOnTop, AreTakenOff, IsEffect, counts_behind, AreCounted, AreDone}
use Rattle.flat_steps.proofs.Linked.{linked_more, linked_taken, linked_push, linked_top, linked_none, linked_bound}
use Rattle.flat_steps.proofs.Linked.{index_is}

pub written_both : (w : Grammar) (g : FlatGrammar) (counts : List ℕ) (a b : List Step) → steps_written w g counts (a ++ b) ≡ steps_written w g counts a ++ steps_written w g (counts_behind g counts a) b
written_both w g counts [] b = refl
written_both w g counts (s ∷ a) b =
    ap (λ l. step_written w g counts s ++ l) (written_both w g (counts_after g counts s) a b)
    ∙ sym (append_assoc (step_written w g counts s) (steps_written w g (counts_after g counts s) a) (steps_written w g (counts_behind g (counts_after g counts s) a) b))

pub counts_both : (g : FlatGrammar) (counts : List ℕ) (a b : List Step) → counts_behind g counts (a ++ b) ≡ counts_behind g (counts_behind g counts a) b
counts_both g counts [] b = refl
counts_both g counts (s ∷ a) b = counts_both g (counts_after g counts s) a b

map_taken : {X Y : Type 0} (f : X → Y) (k : ℕ) (xs : List X) → map f (take k xs) ≡ take k (map f xs)
map_taken f zero xs = refl
map_taken f (suc k) [] = refl
map_taken f (suc k) (x ∷ xs) = ap (λ l. f x ∷ l) (map_taken f k xs)

upto : (n m : ℕ) → n ≤ suc m → (n ≤ m) ⊎ (n ≡ suc m)
upto zero m le = inl (omega arith)
upto (suc n) zero le = inr (omega arith)
upto (suc n) (suc m) le = elim (upto n m (omega arith)) as (λ _. (suc n ≤ suc m) ⊎ (suc n ≡ suc (suc m))) [ inl h ↦ inl (omega arith) | inr h ↦ inr (omega arith) ]

-- the counts that stand there now
pub counted_now : (g : FlatGrammar) (rows : List CountRow) (done : List Step) → AreCounted g rows done → IsCounted rows (length rows) (counts_behind g [] done)
counted_now g rows done h =
    let here : IsCounted rows (length done) (counts_behind g [] done) = subst (λ d. IsCounted rows (length done) (counts_behind g [] d)) (take-length done) (h.each (length done) (omega arith)) in
    subst (λ n. IsCounted rows n (counts_behind g [] done)) (sym h.all) here

counted_more : (w : Grammar) (g : FlatGrammar) (rows : List CountRow) (done : List Step) (step : Step) (effect : Effect) → AreCounted g rows done →
    IsEffect w g rows (counts_behind g [] done) step effect → AreCounted g (rows ++ effect.row ∷ []) (done ++ step ∷ [])
counted_more w g rows done step effect h is = record {
  all = (let a = length-append rows (effect.row ∷ []) in let b = length-append done (step ∷ []) in let c = h.all in omega arith);
  each = λ n le. at n (upto n (length done) (let b = length-append done (step ∷ []) in omega arith));
}
  where
    last : IsCounted (rows ++ effect.row ∷ []) (suc (length rows)) (counts_behind g [] (done ++ step ∷ []))
    last = subst (λ l. IsCounted (rows ++ effect.row ∷ []) (suc (length rows)) l) (sym (counts_both g [] done (step ∷ []) ∙ is.after))
        (linked_push (λ (row : CountRow). row.count) (λ row. row.below) rows effect.row is.left is.below)

    at : (n : ℕ) → (n ≤ length done) ⊎ (n ≡ suc (length done)) → IsCounted (rows ++ effect.row ∷ []) n (counts_behind g [] (take n (done ++ step ∷ [])))
    at n (inl le) = subst (λ l. IsCounted (rows ++ effect.row ∷ []) n (counts_behind g [] l)) (sym (take-append-le n done (step ∷ []) le))
        (linked_more (λ (row : CountRow). row.count) (λ row. row.below) rows (effect.row ∷ []) n (counts_behind g [] (take n done)) (h.each n le))
    at n (inr e) =
        let whole : take n (done ++ step ∷ []) ≡ done ++ step ∷ [] = ap (λ k. take k (done ++ step ∷ [])) (let b = length-append done (step ∷ []) in let c : n ≡ length (done ++ step ∷ []) = omega arith in c) ∙ take-length (done ++ step ∷ []) in
        let place : suc (length rows) ≡ n = ap suc h.all ∙ sym e in
        subst (λ l. IsCounted (rows ++ effect.row ∷ []) n (counts_behind g [] l)) (sym whole) (subst (λ k. IsCounted (rows ++ effect.row ∷ []) k (counts_behind g [] (done ++ step ∷ []))) place last)

-- one more step is done
pub done_more : (w : Grammar) (g : FlatGrammar) (rows : List CountRow) (steps : List TreeStep) (done : List Step) (step : Step) (effect : Effect) → AreDone w g rows steps done →
    IsEffect w g rows (counts_behind g [] done) step effect → AreDone w g (rows ++ effect.row ∷ []) (steps ++ option_to_list effect.step) (done ++ step ∷ [])
done_more w g rows steps done step effect h is = record {
  counted = counted_more w g rows done step effect h.counted is;
  written = map-append step_of steps (option_to_list effect.step) ∙ (let a = h.written in let b = is.written in λ i. a i ++ b i)
      ∙ sym (written_both w g [] done (step ∷ []) ∙ ap (λ l. steps_written w g [] done ++ l) (append_nil (step_written w g (counts_behind g [] done) step)));
}
  where
    append_nil : {X : Type 0} (xs : List X) → xs ++ [] ≡ xs
    append_nil [] = refl
    append_nil (x ∷ xs) = ap (λ l. x ∷ l) (append_nil xs)

-- nothing is done yet
pub done_none : (w : Grammar) (g : FlatGrammar) (rows : List CountRow) (steps : List TreeStep) → rows ≡ [] → steps ≡ [] → AreDone w g rows steps []
done_none w g rows steps e e' = record {
  counted = record { all = ap length e; each = λ n le. (let none : n ≡ 0 = omega arith in subst (λ k. IsCounted rows k (counts_behind g [] (take k []))) (sym none) refl) };
  written = ap (map step_of) e';
}

-- the next of some steps is done
pub done_next : (w : Grammar) (g : FlatGrammar) (steps : List FlatStep) (k : ℕ) (step : FlatStep) (rows : List CountRow) (all : List TreeStep) → slice_get steps k ≡ Some step →
    AreDone w g rows all (map flat_step (take k steps) ++ flat_step step ∷ []) → AreDone w g rows all (map flat_step (take (k + 1) steps))
done_next w g steps k step rows all at h =
    let (lt, same) = got_at steps k step step (sym at) in
    subst (AreDone w g rows all) (sym (ap (map flat_step) (take_more steps k step lt ∙ ap (λ s. take k steps ++ s ∷ []) same) ∙ map-append flat_step (take k steps) (step ∷ []))) h

-- steps are undone, from the last on
pub done_taken : (w : Grammar) (g : FlatGrammar) (rows : List CountRow) (steps : List TreeStep) (a b : List Step) → AreDone w g rows steps (a ++ b) →
    AreDone w g (take (length a) rows) (take (length (steps_written w g [] a)) steps) a
done_taken w g rows steps a b h =
    let c = h.counted.all in
    let d = length-append a b in
    record {
      counted = record {
        all = length-take-le (length a) rows (omega arith);
        each = λ n le. linked_taken (λ (row : CountRow). row.count) (λ row. row.below) rows (length a) n (counts_behind g [] (take n a)) le
            (subst (λ l. IsCounted rows n (counts_behind g [] l)) (take-append-le n a b le) (h.counted.each n (omega arith)));
      };
      written = map_taken step_of (length (steps_written w g [] a)) steps ∙ ap (take (length (steps_written w g [] a))) (h.written ∙ written_both w g [] a b)
          ∙ take-append_seam (steps_written w g [] a) (steps_written w g (counts_behind g [] a) b);
    }

-- counts taken off, one after another
pub newest_none : (n : ℕ) (counts : List ℕ) → older n counts ≡ [] → (older (suc n) counts ≡ []) × (sum_newest (suc n) counts ≡ sum_newest n counts)
newest_none zero [] e = (refl, refl)
newest_none zero (c ∷ counts) e = cc
newest_none (suc n) [] e = (refl, refl)
newest_none (suc n) (c ∷ counts) e =
    let h = newest_none n counts e in
    (h.0, ap (λ k. k + c) h.1)

pub newest_more : (n : ℕ) (counts : List ℕ) (c : ℕ) (rest : List ℕ) → older n counts ≡ c ∷ rest → (older (suc n) counts ≡ rest) × (sum_newest (suc n) counts ≡ sum_newest n counts + c)
newest_more zero [] c rest e = cc
newest_more zero (d ∷ counts) c rest e =
    let same : d ≡ c = cc in
    let tail : counts ≡ rest = cc in
    (tail, ap (λ k. 0 + k) same)
newest_more (suc n) [] c rest e = cc
newest_more (suc n) (d ∷ counts) c rest e =
    let h = newest_more n counts c rest e in
    let sum = h.1 in
    (h.0, (let goal : sum_newest (suc n) counts + d ≡ (sum_newest n counts + d) + c = omega arith in goal))

-- what is known of the symbols of a flat grammar
pub sequence_within : (g : FlatGrammar) (w : Grammar) → IsFlatOf g w → (x i : ℕ) → slice_get g.symbols x ≡ Some (Sequence i) → i < length w.rules
sequence_within g w is x i e = ((is.symbols.exact (Sequence i)).0 (contains_from g.symbols (Sequence i) (get_among g.symbols x (Sequence i) e))).1

pub top_within : (g : FlatGrammar) (w : Grammar) → IsFlatOf g w → (x k : ℕ) → slice_get g.symbols x ≡ Some (Top k) → k < length w.starts
top_within g w is x k e = (is.symbols.exact (Top k)).0 (contains_from g.symbols (Top k) (get_among g.symbols x (Top k) e))

pub stands_at : (g : FlatGrammar) (w : Grammar) (x : ℕ) (s : FlatSymbol) → slice_get g.symbols x ≡ Some s → written_symbol w (symbol_at g x) ≡ written_symbol w s
stands_at g w x s e = ap (written_symbol w) (index_is g.symbols x s (Top 0) e)

-- one count more is taken off, or there is none
pub taken_first : (rows : List CountRow) (counts : List ℕ) → IsCounted rows (length rows) counts → AreTakenOff rows 0 counts (record { count = 0; below = length rows })
taken_first rows counts h = record { sum = refl; rest = h }

pub taken_more : (rows : List CountRow) (counts : List ℕ) (n sum place : ℕ) (row : CountRow) → slice_get rows place ≡ Some row → AreTakenOff rows n counts (record { count = sum; below = suc place }) →
    AreTakenOff rows (suc n) counts (record { count = sum + row.count; below = row.below })
taken_more rows counts n sum place row e h =
    let on = linked_top (λ (r : CountRow). r.count) (λ r. r.below) rows place row (older n counts) e h.rest in
    let next = newest_more n counts row.count on.rest on.both in
    record {
      sum = ap (λ k. k + row.count) h.sum ∙ sym next.1;
      rest = subst (λ l. IsCounted rows row.below l) (sym next.0) on.linked;
    }

pub taken_same : (rows : List CountRow) (counts : List ℕ) (n sum : ℕ) → AreTakenOff rows n counts (record { count = sum; below = 0 }) → AreTakenOff rows (suc n) counts (record { count = sum; below = 0 })
taken_same rows counts n sum h =
    let none = linked_none (λ (r : CountRow). r.count) (λ r. r.below) rows (older n counts) h.rest in
    let next = newest_none n counts none in
    record { sum = h.sum ∙ sym next.1; rest = subst (λ l. IsCounted rows 0 l) (sym next.0) refl }

-- the counts are for no more children than there were steps
sum-cons : (c : ℕ) (counts : List ℕ) → sum (c ∷ counts) ≡ c + sum counts
sum-cons = sum_by-cons (λ n. n)

newest_and_older : (n : ℕ) (counts : List ℕ) → sum_newest n counts + sum (older n counts) ≡ sum counts
newest_and_older zero counts = omega arith
newest_and_older (suc n) [] = refl
newest_and_older (suc n) (c ∷ counts) = let h = newest_and_older n counts in let more = sum-cons c counts in omega arith

pub newest_few : (n : ℕ) (counts : List ℕ) → sum_newest n counts ≤ sum counts
newest_few n counts = let h = newest_and_older n counts in omega arith

rule_few : (list : Bool) (n : ℕ) (counts : List ℕ) → cond list (sum_newest n counts) 1 + sum (older n counts) ≤ suc (sum counts)
rule_few true n counts = let h = newest_and_older n counts in omega arith
rule_few false n counts = let h = newest_and_older n counts in omega arith

after_few : (g : FlatGrammar) (counts : List ℕ) (step : Step) → sum (counts_after g counts step) ≤ suc (sum counts)
after_few g counts (TokenStep x from to) = let more = sum-cons 1 counts in omega arith
after_few g counts (NulledStep x at) = let more = sum-cons 1 counts in omega arith
after_few g counts (RuleStep r n from to) =
    let few = rule_few (is_list_rule g r) n counts in
    let more = sum-cons (cond (is_list_rule g r) (sum_newest n counts) 1) (older n counts) in
    omega arith

behind_few : (g : FlatGrammar) (counts : List ℕ) (steps : List Step) → sum (counts_behind g counts steps) ≤ sum counts + length steps
behind_few g counts [] = omega arith
behind_few g counts (step ∷ steps) =
    let one = after_few g counts step in
    let others = behind_few g (counts_after g counts step) steps in
    omega arith

pub on_top : (g : FlatGrammar) (rows : List CountRow) (done : List Step) → AreCounted g rows done → AreOnTop rows (counts_behind g [] done)
on_top g rows done h = record {
  counted = counted_now g rows done h;
  few = (let few = behind_few g [] done in let all = h.all in omega arith);
}

pub taken_bound : (rows : List CountRow) (counts : List ℕ) (n : ℕ) (row : CountRow) → AreTakenOff rows n counts row → row.below ≤ length rows
taken_bound rows counts n row h = linked_bound (λ (r : CountRow). r.count) (λ r. r.below) rows row.below (older n counts) h.rest

-- whether a rule is a list's is told by its left side's symbol
pub list_by : (g : FlatGrammar) (r x : ℕ) (s : FlatSymbol) → x ≡ lhs_of g r → slice_get g.symbols x ≡ Some s → is_list s ≡ is_list_rule g r
list_by g r x s same at = ap is_list (sym (got_at g.symbols x s (Top 0) (sym at)).1 ∙ ap (symbol_at g) same)

pub no_list_by : (g : FlatGrammar) (r x : ℕ) (s : FlatSymbol) → x ≡ lhs_of g r → slice_get g.symbols x ≡ Some s → ((i : RuleId) → ¬ (s ≡ Sequence i)) → false ≡ is_list_rule g r
no_list_by g r x s same at other = no_list s other ∙ list_by g r x s same at
  where
    no_list : (s : FlatSymbol) → ((i : RuleId) → ¬ (s ≡ Sequence i)) → false ≡ is_list s
    no_list (Terminal t) never = refl
    no_list (Slot symbol level) never = refl
    no_list (Sequence i) never = absurd (never i refl)
    no_list (Top k) never = refl
