-- Equal threads, and sets and numbered lists of them.
use Rattle.std.proofs.Common.{◌≡◌, ◌==◌, ◌&&◌, ◌||◌, ◌⊎◌, inl, inr, ℕ, zero, suc, Bool, true, false, true≢false, if◌then◌else◌, Option, Some, None, List, [], ◌∷◌, ◌++◌, slice_get, Contains, refl, sym, ap, ◌∙◌, arith}
use Rattle.std.specs.Bool.{Decides}
use Rattle.std.specs.Cmp.Lexicographic.{pointwise}
use Rattle.std.specs.List.{list_any}
use Rattle.std.specs.Option.{option_eq}
use Rattle.std.specs.declared.vec.Vec.{Vec}
use Rattle.std.specs.declared.alloc.Global.{Global}
use Rattle.std.proofs.lemmas.Bool.Decides.{Decides-eqb, Decides-and}
use Rattle.std.proofs.lemmas.Slice.Eq.{slice_eq-Decides}
use Rattle.std.proofs.lemmas.List.{map-append}
use Rattle.finite_sets.proofs.Lists.{Contains-none}
use Rattle.indexmap.specs.IndexSet.{insert_key}
use Rattle.recognizer_model.specs.declared.thread.Label.{Label}
use Rattle.recognizer_model.specs.declared.thread.Thread.{Thread}
use Rattle.threads.specs.Lists.{lists_of, list_at}
use Rattle.threads.specs.Closing.{Adds}

option_decides : {X : Type 0} (E : X → X → Bool) → ((a b : X) → Decides (E a b) (a ≡ b)) → (x y : Option X) → Decides (option_eq E x y) (x ≡ y)
option_decides E same None None = (λ t. refl, λ h. refl)
option_decides E same None (Some y) = (λ t. absurd (true≢false (sym t)), λ e. absurd (cc))
option_decides E same (Some x) None = (λ t. absurd (true≢false (sym t)), λ e. absurd (cc))
option_decides E same (Some x) (Some y) = (λ t. ap Some ((same x y).0 t), λ e. (same x y).1 (cc))

abbrev pub label_eq : Label → Label → Bool
label_eq x y = (x.part == y.part) && (x.goal == y.goal)

abbrev pub thread_eq : Thread → Thread → Bool
thread_eq x y = (x.rule == y.rule) && ((x.dot == y.dot) && option_eq label_eq x.label y.label)

labels_decide : (x y : Label) → Decides (label_eq x y) (x ≡ y)
labels_decide x y =
    let d = Decides-and (x.part == y.part) (x.goal == y.goal) (Decides-eqb x.part y.part) (Decides-eqb x.goal y.goal) in (
      λ t. (let (a, b) = d.0 t in λ i. record { part = a i; goal = b i }),
      λ e. d.1 (ap (λ (z : Label). z.part) e, ap (λ (z : Label). z.goal) e),
    )

pub threads_decide : (x y : Thread) → Decides (thread_eq x y) (x ≡ y)
threads_decide x y =
    let d = Decides-and (x.rule == y.rule) ((x.dot == y.dot) && option_eq label_eq x.label y.label) (Decides-eqb x.rule y.rule)
    (Decides-and (x.dot == y.dot) (option_eq label_eq x.label y.label) (Decides-eqb x.dot y.dot) (option_decides label_eq labels_decide x.label y.label)) in (
      λ t. (let (a, bc) = d.0 t in let (b, c) = bc in λ i. record { rule = a i; dot = b i; label = c i }),
      λ e. d.1 (ap (λ (z : Thread). z.rule) e, (ap (λ (z : Thread). z.dot) e, ap (λ (z : Thread). z.label) e)),
    )

any_there : (xs : List Thread) (x : Thread) → Decides (list_any (thread_eq x) xs) (Contains xs x)
any_there [] x = (λ t. absurd (true≢false (sym t)), λ c. absurd (Contains-none x c))
any_there (y ∷ ys) x = by (thread_eq x y) (list_any (thread_eq x) ys) (threads_decide x y) (any_there ys x)
  where
    by : (a b : Bool) → Decides a (x ≡ y) → Decides b (Contains ys x) → Decides (a || b) (Contains (y ∷ ys) x)
    by true b d rest = (λ t. (0, omega arith, sym (d.0 refl)), λ h. refl)
    by false b d rest = (λ t. (let (k, lt, e) = rest.0 t in (suc k, omega arith, e)), λ h. rest.1 (tail h))
      where
        tail : Contains (y ∷ ys) x → Contains ys x
        tail (zero, lt, e) = absurd (true≢false (sym (d.1 (sym e))))
        tail (suc k, lt, e) = (k, omega arith, e)

pub adds_key : (ks new : List Thread) (k : Thread) → new ≡ insert_key thread_eq ks k → Adds ks new k
adds_key ks new k e = by (list_any (thread_eq k) ks) refl
  where
    by : (b : Bool) → list_any (thread_eq k) ks ≡ b → Adds ks new k
    by true h = inl (e ∙ ap (λ c. if c then ks else ks ++ k ∷ []) h, (any_there ks k).0 h)
    by false h = inr (e ∙ ap (λ c. if c then ks else ks ++ k ∷ []) h, λ there. true≢false (sym ((any_there ks k).1 there) ∙ h))

-- ---- numbered lists

abbrev pub list_eq : Vec Thread Global → Vec Thread Global → Bool
list_eq x y = pointwise thread_eq x.items y.items

pub numbered : (old new : List (Vec Thread Global)) (v : Vec Thread Global) → new ≡ insert_key list_eq old v → (lists_of new ≡ lists_of old) ⊎ (lists_of new ≡ lists_of old ++ v.items ∷ [])
numbered old new v e = by (list_any (list_eq v) old) refl
  where
    by : (b : Bool) → list_any (list_eq v) old ≡ b → (lists_of new ≡ lists_of old) ⊎ (lists_of new ≡ lists_of old ++ v.items ∷ [])
    by true h = inl (ap lists_of (e ∙ ap (λ b. if b then old else old ++ v ∷ []) h))
    by false h = inr (ap lists_of (e ∙ ap (λ b. if b then old else old ++ v ∷ []) h) ∙ map-append (λ (w : Vec Thread Global). w.items) old (v ∷ []))

at_of : (keys : List (Vec Thread Global)) (k : ℕ) (w : Vec Thread Global) → slice_get keys k ≡ Some w → list_at (lists_of keys) k ≡ w.items
at_of [] k w e = absurd (cc)
at_of (y ∷ ys) zero w e = let same : y ≡ w = cc in ap (λ (z : Vec Thread Global). z.items) same
at_of (y ∷ ys) (suc k) w e = at_of ys k w e

pub numbered_at : (keys : List (Vec Thread Global)) (k : ℕ) (v w : Vec Thread Global) → slice_get keys k ≡ Some w → list_eq v w ≡ true → list_at (lists_of keys) k ≡ v.items
numbered_at keys k v w e t = at_of keys k w e ∙ sym ((slice_eq-Decides threads_decide v.items w.items (list_eq v w) refl).0 t)
