-- The terminals of the job's own input, and the derivation that they have.
use Rattle.std.proofs.Common.{◌≡◌, ℕ, zero, suc, ◌+◌, ◌*◌, ◌-◌, ◌<◌, ◌≤◌, List, ◌∷◌, ◌++◌, length, replicate, slice_get, refl, ◌∙◌, subst, arith, length-append}
use Rattle.std.proofs.lemmas.List.{length-replicate}
use Rattle.grammar_model.specs.Trees.{Tree, Node}
use Rattle.work_laws.proofs.Lines.{get_left, get_right, get_copy, get_past}
use Rattle.work_laws.proofs.Shapes.{At, IsRun, Last, More, Letter, Bracket, Stops}

-- so many letters, so many open brackets, a letter, and the brackets closed
abbrev pub word : ℕ → List ℕ
word size = replicate size 2 ++ (replicate size 3 ++ (2 ∷ replicate size 4))

module _ (size : ℕ) where
  pub word_length : length (word size) ≡ 3 * size + 1
  word_length =
      let a = length-append {A = ℕ} (replicate size 2) (replicate size 3 ++ (2 ∷ replicate size 4)) in
      let b = length-append {A = ℕ} (replicate size 3) (2 ∷ replicate size 4) in
      let c = length-replicate {A = ℕ} size 2 in
      let d = length-replicate {A = ℕ} size 3 in
      let e = length-replicate {A = ℕ} size 4 in
      omega (arith, a, b, c, d, e)

  letter_at : (i : ℕ) → i < size → At (word size) i 2
  letter_at i lt = get_left (replicate size 2) (replicate size 3 ++ (2 ∷ replicate size 4)) i (let c = length-replicate {A = ℕ} size 2 in omega (arith, lt, c)) ∙ get_copy size 2 i lt

  behind : (i j : ℕ) → j ≡ size + i → slice_get (word size) j ≡ slice_get (replicate size 3 ++ (2 ∷ replicate size 4)) i
  behind i j e = get_right (replicate size 2) (replicate size 3 ++ (2 ∷ replicate size 4)) i j (let c = length-replicate {A = ℕ} size 2 in omega (arith, e, c))

  open_at : (i j : ℕ) → j ≡ size + i → i < size → At (word size) j 3
  open_at i j e lt =
      behind i j e ∙ get_left (replicate size 3) (2 ∷ replicate size 4) i (let c = length-replicate {A = ℕ} size 3 in omega (arith, lt, c)) ∙ get_copy size 3 i lt

  far : (i j : ℕ) → j ≡ 2 * size + i → slice_get (word size) j ≡ slice_get (2 ∷ replicate size 4) i
  far i j e = behind (size + i) j (omega (arith, e)) ∙ get_right (replicate size 3) (2 ∷ replicate size 4) i (size + i) (let c = length-replicate {A = ℕ} size 3 in omega (arith, c))

  close_at : (i j : ℕ) → j ≡ 2 * size + suc i → i < size → At (word size) j 4
  close_at i j e lt = far (suc i) j e ∙ get_copy size 4 i lt

  pub word_stops : Stops (word size) (3 * size + 1)
  word_stops = record { letter = never 2; bracket = never 3 }
    where
      never : (s : ℕ) → At (word size) (3 * size + 1) s → ⊥
      never s a = get_past (word size) (3 * size + 1) s (let e = word_length in omega (arith, e)) a

  abbrev Runs : ℕ → ℕ → Type 0
  Runs p q = (t : Tree) × IsRun (word size) p q t

  -- the last letter within so many brackets
  core : (k p q : ℕ) → k ≤ size → p + k ≡ 2 * size → q ≡ 2 * size + suc k → Runs p q
  core zero p q le e e' = subst (Runs p) (let next : suc p ≡ q = omega (arith, e, e') in next) (Node 1 _ p (suc p), Last (Letter (far 0 p (omega (arith, e)))))
  core (suc k) p q le e e' =
      let (t, r) = core k (suc p) (2 * size + suc k) (omega (arith, le)) (omega (arith, e)) refl in
      subst (Runs p) (let next : suc (2 * size + suc k) ≡ q = omega (arith, e') in next) (Node 1 _ p _, Last (Bracket (open_at (p - size) p (omega (arith, e, le)) (omega (arith, e, le))) r (close_at k (2 * size + suc k) refl (omega (arith, le)))))

  -- and so many letters before
  letters : (k p : ℕ) → k ≤ size → p + k ≡ size → Runs p (3 * size + 1)
  letters zero p le e = core size p (3 * size + 1) (omega arith) (omega (arith, e)) (omega arith)
  letters (suc k) p le e =
      let (t, r) = letters k (suc p) (omega (arith, le)) (omega (arith, e)) in
      (Node 0 _ p _, More (Letter (letter_at p (omega (arith, e)))) r)

  pub word_run : (t : Tree) × IsRun (word size) 0 (3 * size + 1) t
  word_run = letters size 0 (omega arith) (omega arith)
