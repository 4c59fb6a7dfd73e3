-- The uses of statements, and what is told of them.
use Rattle.std.proofs.Common.{◌≡◌, ℕ, Bool, true, false, cond, List, [], ◌∷◌, ◌++◌, refl, sym, ap, ◌∙◌, map, Vec, Global, append_assoc, Result, Ok, Err}
use Rattle.std.specs.Prelude.{flat_map, option_map, find, OnOk, bytes_eq, not, ◌&&◌, ◌||◌, Option, Some, None}
use Rattle.std.specs.List.{list_any}
use Rattle.std.proofs.lemmas.List.Folds.{flat_map-map}
use Rattle.language_model.specs.Tokens.{Spelled}
use Rattle.language_model.specs.Description.{Alternative}
use Rattle.language_model.specs.Building.{parts_of, alternatives_of, Fault, fault_at, at_most, in_both, is_one_of}
use Rattle.dsl_statement.specs.declared.statement.Alternative.{Alternative as HeldAlternative}
use Rattle.dsl_statement.specs.declared.statement.Statement.{Statement as HeldStatement}
use Rattle.dsl_statement.specs.declared.statement.Level.{Level}
use Rattle.dsl_statement.specs.declared.statement.Statement.TheVariants.{Rules}
use Rattle.dsl_statement.specs.Statements.{is_lexical, statement_of}
use Rattle.dsl_faults.specs.Uses.{used, Used, uses_of, used_of, is_left, is_asked, texts_asked}
use Rattle.std.proofs.Math.Bool.{or_comm}
use Rattle.dsl_faults.specs.declared.uses.Which.{Which}
use Rattle.std.specs.Borrow.{Bor}
use Rattle.std.proofs.lemmas.Simd.{map-map}
use Rattle.finite_sets.proofs.Lists.{flat_flat, map_flat}
use Rattle.dsl_faults.specs.Found.{along, first_of}
use Rattle.dsl_faults.specs.declared.uses.Use.{Use}
use Rattle.dsl_faults.specs.Faults.{left_part, both_fault, lefts_after}
use Rattle.dsl_faults.specs.declared.symbols.Lefts.{Lefts}
use Rattle.dsl_faults.specs.Texts.{with_text}
use Rattle.dsl_faults.proofs.Keeping.{among_more}
use Rattle.dsl_faults.specs.declared.uses.Role.TheVariants as role

-- what each part of all alternatives gives, group by group
pub parts_flat : {A : Type 0} (f : Spelled → A) (groups : List (Vec HeldAlternative Global)) →
    map f (flat_map parts_of (alternatives_of (map (λ g. g.items) groups))) ≡ flat_map (λ g. flat_map (λ a. map f (parts_of a)) g.items) groups
parts_flat f groups =
    map_flat parts_of f (alternatives_of (map (λ g. g.items) groups))
    ∙ flat_flat (λ (g : List Alternative). g) (λ (a : Alternative). map f (parts_of a)) (map (λ g. g.items) groups)
    ∙ flat_map-map (λ (g : List Alternative). flat_map (λ a. map f (parts_of a)) g) (λ g. g.items) groups

pub rules_uses : {A E : Type 0} (result : Result A E) (after between before : List Used) (s : HeldStatement) (left : Spelled) (level : Level) (groups : Vec (Vec HeldAlternative Global) Global) →
    s ≡ Rules left level groups → between ≡ before ++ used role.Left (is_lexical level) left ∷ [] → (held : List (Vec HeldAlternative Global)) → held ≡ groups.items →
    OnOk result (after ≡ between ++ flat_map (λ g. flat_map (λ a. map (used role.Right (is_lexical level)) (parts_of a)) g.items) held) → OnOk result (after ≡ before ++ uses_of (statement_of s))
rules_uses (Err e) after between before s left level groups is first held same pushed = pushed
rules_uses (Ok x) after between before s left level groups is first held same pushed =
    let gs = map (λ g. g.items) groups.items in
    let rights : map (λ r. used role.Right r.0 r.1) (map (λ t. (is_lexical level, t)) (flat_map parts_of (alternatives_of gs))) ≡ flat_map (λ g. flat_map (λ a. map (used role.Right (is_lexical level)) (parts_of a)) g.items) held =
    map-map (λ r. used role.Right r.0 r.1) (λ (t : Spelled). (is_lexical level, t)) (flat_map parts_of (alternatives_of gs)) ∙ parts_flat (used role.Right (is_lexical level)) groups.items
    ∙ ap (flat_map (λ g. flat_map (λ a. map (used role.Right (is_lexical level)) (parts_of a)) g.items)) (sym same) in
    pushed ∙ ap (λ us. us ++ flat_map (λ g. flat_map (λ a. map (used role.Right (is_lexical level)) (parts_of a)) g.items) held) first
    ∙ append_assoc before (used role.Left (is_lexical level) left ∷ []) (flat_map (λ g. flat_map (λ a. map (used role.Right (is_lexical level)) (parts_of a)) g.items) held)
    ∙ sym (ap (λ x. before ++ uses_of (statement_of x)) is ∙ ap (λ us. before ++ used role.Left (is_lexical level) left ∷ us) rights)

abbrev pub both_each : Lefts → Use → List Fault
both_each lefts u = both_fault lefts.structural lefts.lexical (used_of u)

abbrev pub both_next : Lefts → Use → Lefts
both_next lefts u = lefts_after lefts (used_of u)

-- the left sides of either level are those before
abbrev Knows : Lefts → List (Bool × Spelled) → Type 0
Knows lefts before = ((t : List ℕ) → is_one_of lefts.structural t ≡ list_any (λ b. not b.0 && bytes_eq b.1.content t) before)
    × ((t : List ℕ) → is_one_of lefts.lexical t ≡ list_any (λ b. b.0 && bytes_eq b.1.content t) before)

abbrev with_left : Lefts → Bool → Spelled → Lefts
with_left lefts lexical t = cond lexical (record { structural = lefts.structural; lexical = with_text lefts.lexical t.content }) (record { structural = with_text lefts.structural t.content; lexical = lefts.lexical })

one_more : (names : List (List ℕ)) (t u : List ℕ) (known : Bool) → is_one_of names u ≡ known → is_one_of (with_text names t) u ≡ (bytes_eq t u || known)
one_more names t u known e = among_more names t u ∙ or_comm (is_one_of names u) (bytes_eq t u) ∙ ap (λ b. bytes_eq t u || b) e

knows_next : (lefts : Lefts) (before : List (Bool × Spelled)) (lexical : Bool) (t : Spelled) → Knows lefts before → Knows (with_left lefts lexical t) ((lexical, t) ∷ before)
knows_next lefts before true t k = (k.0, λ u. one_more lefts.lexical t.content u (list_any (λ b. b.0 && bytes_eq b.1.content u) before) (k.1 u))
knows_next lefts before false t k = (λ u. one_more lefts.structural t.content u (list_any (λ b. not b.0 && bytes_eq b.1.content u) before) (k.0 u), k.1)

any_same : {A : Type 0} (p q : A → Bool) (xs : List A) → ((x : A) → p x ≡ q x) → list_any p xs ≡ list_any q xs
any_same p q [] same = refl
any_same p q (x ∷ xs) same = ap (λ b. b || list_any p xs) (same x) ∙ ap (λ b. q x || b) (any_same p q xs same)

of_structural : (a e : Bool) → (not a && e) ≡ (e && not ((a && true) || (not a && false)))
of_structural true true = refl
of_structural true false = refl
of_structural false true = refl
of_structural false false = refl

of_lexical : (a e : Bool) → (a && e) ≡ (e && not ((a && false) || (not a && true)))
of_lexical true true = refl
of_lexical true false = refl
of_lexical false true = refl
of_lexical false false = refl

other_level : (lefts : Lefts) (before : List (Bool × Spelled)) (lexical : Bool) (t : List ℕ) → Knows lefts before →
    is_one_of (cond lexical lefts.structural lefts.lexical) t ≡ list_any (λ b. bytes_eq b.1.content t && not ((b.0 && lexical) || (not b.0 && not lexical))) before
other_level lefts before true t k = k.0 t ∙ any_same (λ (b : Bool × Spelled). not b.0 && bytes_eq b.1.content t) (λ b. bytes_eq b.1.content t && not ((b.0 && true) || (not b.0 && false))) before (λ (b : Bool × Spelled). of_structural b.0 (bytes_eq b.1.content t))
other_level lefts before false t k = k.1 t ∙ any_same (λ (b : Bool × Spelled). b.0 && bytes_eq b.1.content t) (λ b. bytes_eq b.1.content t && not ((b.0 && false) || (not b.0 && true))) before (λ (b : Bool × Spelled). of_lexical b.0 (bytes_eq b.1.content t))

both_behind : (lefts : Lefts) (before : List (Bool × Spelled)) (us : List Use) → Knows lefts before → in_both before (flat_map left_part (map used_of us)) ≡ along both_each both_next lefts us
both_behind lefts before [] k = refl
both_behind lefts before (u ∷ us) k = go (is_left (used_of u)) (both_behind lefts before us k) (both_behind (with_left lefts (is_lexical u.level) u.token.now) (left ∷ before) us (knows_next lefts before (is_lexical u.level) u.token.now k))
  where
    left : Bool × Spelled
    left = (is_lexical u.level, u.token.now)

    go : (b : Bool) → in_both before (flat_map left_part (map used_of us)) ≡ along both_each both_next lefts us →
        in_both (left ∷ before) (flat_map left_part (map used_of us)) ≡ along both_each both_next (with_left lefts (is_lexical u.level) u.token.now) us →
        in_both before (cond b (left ∷ []) [] ++ flat_map left_part (map used_of us)) ≡
        at_most (b && is_one_of (cond (is_lexical u.level) lefts.structural lefts.lexical) u.token.now.content) (fault_at u.token.now) ++ along both_each both_next (cond b (with_left lefts (is_lexical u.level) u.token.now) lefts) us
    go true e f =
        ap (λ b. at_most b (fault_at u.token.now) ++ in_both (left ∷ before) (flat_map left_part (map used_of us))) (sym (other_level lefts before (is_lexical u.level) u.token.now.content k))
        ∙ ap (λ fs. at_most (is_one_of (cond (is_lexical u.level) lefts.structural lefts.lexical) u.token.now.content) (fault_at u.token.now) ++ fs) f
    go false e f = e

pub both_along : (lefts : Lefts) (us : List Use) → lefts.structural ≡ [] → lefts.lexical ≡ [] → in_both [] (flat_map left_part (map used_of us)) ≡ along both_each both_next lefts us
both_along lefts us none empty = both_behind lefts [] us ((λ t. ap (λ ns. is_one_of ns t) none), λ t. ap (λ ns. is_one_of ns t) empty)

-- the content of the first use that is asked for
asked_first : (which : Which) (us : List Use) → option_map (λ (u : Use). u.token.now.content) (find (λ u. is_asked which (used_of u)) us) ≡ first_of (flat_map (λ u. texts_asked which (used_of u)) us)
asked_first which [] = refl
asked_first which (u ∷ us) = go (is_asked which (used_of u)) (asked_first which us)
  where
    content : Use → List ℕ
    content v = v.token.now.content

    go : (b : Bool) → option_map content (find (λ v. is_asked which (used_of v)) us) ≡ first_of (flat_map (λ v. texts_asked which (used_of v)) us) →
        option_map content (cond b (Some u) (find (λ v. is_asked which (used_of v)) us)) ≡ first_of (cond b (content u ∷ []) [] ++ flat_map (λ v. texts_asked which (used_of v)) us)
    go true e = refl
    go false e = e

pub found_use : (which : Which) (us : List Use) (r : Option (Bor Use)) → option_map (λ u. u.now) r ≡ find (λ u. is_asked which (used_of u)) us →
    option_map (λ (u : Bor Use). u.now.token.now.content) r ≡ first_of (flat_map (λ u. texts_asked which (used_of u)) us)
found_use which us None e = ap (option_map (λ (u : Use). u.token.now.content)) e ∙ asked_first which us
found_use which us (Some u) e = ap (option_map (λ (u : Use). u.token.now.content)) e ∙ asked_first which us
