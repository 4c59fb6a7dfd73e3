-- Whether a text names a place.
use Rattle.std.proofs.Common.{◌≡◌, ℕ, Bool, true, false, List, [], ◌∷◌, ◌++◌, ◌⊎◌, inl, inr, length, refl, sym, ap, ◌∙◌, nat_le, leb-true, arith}
use Rattle.std.specs.Prelude.{bytes_eq}
use Rattle.std.proofs.lemmas.Bool.{leb-false}
use Rattle.std.proofs.lemmas.Slice.Eq.{bytes_eq-Decides}
use Rattle.grammar_model.specs.Trees.{Tree}
use Rattle.grammar_model.specs.declared.limits.TheConstants.{LONGEST_CURSOR}
use Rattle.cursor_model.specs.Cursor.{cursor_of}
use Rattle.cursor_model.specs.Rest.{start_text, place_after, IsRest, NamesNone}
use Rattle.cursor_model.specs.Laws.{PlacesAreDecided}

-- the list is parted so that the text is the place between
record Parts (text start : List ℕ) (trees before rest : List Tree) : Type 0 where
  parts : trees ≡ before ++ rest
  is : text ≡ place_after start before

abbrev HasParts : (text start : List ℕ) → List Tree → Type 0
HasParts text start trees = (before : List Tree) × (rest : List Tree) × Parts text start trees before rest

abbrev HasNone : (text start : List ℕ) → List Tree → Type 0
HasNone text start trees = (before rest : List Tree) → Parts text start trees before rest → ⊥

same_bytes : (xs ys : List ℕ) → bytes_eq xs ys ≡ true → xs ≡ ys
same_bytes xs ys e = (bytes_eq-Decides xs ys).0 e

other_bytes : (xs ys : List ℕ) → bytes_eq xs ys ≡ false → xs ≡ ys → ⊥
other_bytes xs ys e same = let bad : true ≡ false = sym ((bytes_eq-Decides xs ys).1 same) ∙ e in cc

nothing_before : (text start : List ℕ) → bytes_eq text start ≡ false → (before rest : List Tree) → Parts text start [] before rest → ⊥
nothing_before text start e [] rest p = other_bytes text start e p.is
nothing_before text start e (t ∷ before) rest p = let bad : [] ≡ t ∷ (before ++ rest) = p.parts in cc

none_parted : (text start : List ℕ) (b : Bool) → bytes_eq text start ≡ b → HasParts text start [] ⊎ HasNone text start []
none_parted text start true e = inl ([], [], record { parts = refl; is = same_bytes text start e })
none_parted text start false e = inr (nothing_before text start e)

none_before : (text start : List ℕ) (t : Tree) (trees : List Tree) → bytes_eq text start ≡ false → HasNone text (cursor_of t) trees → (before rest : List Tree) → Parts text start (t ∷ trees) before rest → ⊥
none_before text start t trees e none [] rest p = other_bytes text start e p.is
none_before text start t trees e none (u ∷ before) rest p =
    let both : t ∷ trees ≡ u ∷ (before ++ rest) = p.parts in
    let heads : t ≡ u = cc in
    let tails : trees ≡ before ++ rest = cc in
    none before rest (record { parts = tails; is = p.is ∙ ap (λ v. place_after (cursor_of v) before) (sym heads) })

more_parted : (text start : List ℕ) (t : Tree) (trees : List Tree) (b : Bool) → bytes_eq text start ≡ b → HasParts text (cursor_of t) trees ⊎ HasNone text (cursor_of t) trees →
    HasParts text start (t ∷ trees) ⊎ HasNone text start (t ∷ trees)
more_parted text start t trees true e later = inl ([], t ∷ trees, record { parts = refl; is = same_bytes text start e })
more_parted text start t trees false e (inl (before, rest, p)) = inl (t ∷ before, rest, record { parts = ap (λ l. t ∷ l) p.parts; is = p.is })
more_parted text start t trees false e (inr none) = inr (none_before text start t trees e none)

parted : (text start : List ℕ) (trees : List Tree) → HasParts text start trees ⊎ HasNone text start trees
parted text start [] = none_parted text start (bytes_eq text start) refl
parted text start (t ∷ trees) = more_parted text start t trees (bytes_eq text start) refl (parted text (cursor_of t) trees)

pub places_are_decided : PlacesAreDecided
places_are_decided trees text = by (nat_le (length text) LONGEST_CURSOR) refl (parted text start_text trees)
  where
    by : (b : Bool) → nat_le (length text) LONGEST_CURSOR ≡ b → HasParts text start_text trees ⊎ HasNone text start_text trees → ((rest : List Tree) × IsRest trees text rest) ⊎ NamesNone trees text
    by true e (inl (before, rest, p)) = inl (rest, (before, record { parts = p.parts; within = leb-true (length text) LONGEST_CURSOR e; is = p.is }))
    by true e (inr none) = inr (λ before rest p. none before rest (record { parts = p.parts; is = p.is }))
    by false e found = inr (λ before rest p. (let more = leb-false (length text) LONGEST_CURSOR e in let within = p.within in omega (arith, more, within)))
