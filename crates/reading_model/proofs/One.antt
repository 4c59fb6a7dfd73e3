-- A text has one reading: what is taken at a place is decided by what was taken before, and so is that nothing can be.
use Rattle.std.proofs.Common.{arith, ◌≡◌, ◌⊎◌, inl, inr, ◌↔◌, ℕ, suc, ◌+◌, ◌<◌, List, [], ◌∷◌, ◌++◌, length, Contains, append_assoc, append-nil, refl, sym, ◌∙◌, ap, subst}
use Rattle.std.proofs.lemmas.Cmp.{nat_cmp_total, nat_list_cmp_total}
use Rattle.std.specs.List.Sorted.{IsStrictlySortedBy}
use Rattle.std.specs.Ordering.{nat_cmp, ordering_reverse}
use Rattle.std.specs.declared.cmp.Ordering.{Ordering}
use Rattle.std.specs.declared.cmp.Ordering.TheVariants.{Less, Greater}
use Rattle.std.specs.Cmp.Lexicographic.{slice_cmp}
use Rattle.finite_sets.proofs.Members.{among_from, contains_from}
use Rattle.grammar_model.specs.Values.{name_of}
use Rattle.grammar_model.proofs.Lists.{one_sorted}
use Rattle.language_model.specs.Building.{Built}
use Rattle.reading_model.specs.Reading.{Piece, Token, Skipped, IsLongest, IsKept, IsKeptNone, IsSkipped, Ending, End, Stopped, AreFound, AreExpected, AreSorted}
use Rattle.reading_model.specs.First.{IsFirstWith, HasNone}
use Rattle.reading_model.specs.Reading.{supplied, HasDerivation, TakesNothing, IsStuck, Within, Ended, MaySupply, ReadsWith, Begin, Take, Skip, Supply, IsReadingWith, HasEnded, HasStopped}
use Rattle.reading_model.specs.Laws.{ReadingIsOne}

-- ---- orders

never : (o p : Ordering) → o ≡ ordering_reverse p → o ≡ Less → p ≡ Less → ⊥
never o p e f g = let same : Less ≡ Greater = sym f ∙ e ∙ ap ordering_reverse g in cc

one_by : (cmp : ℕ → ℕ → Ordering) → ((x y : ℕ) → cmp x y ≡ ordering_reverse (cmp y x)) → (xs ys : List ℕ) → IsStrictlySortedBy cmp xs → IsStrictlySortedBy cmp ys → ((z : ℕ) → Contains xs z ↔ Contains ys z) → xs ≡ ys
one_by cmp antisymm xs ys s t a =
    one_sorted cmp (λ x y e f. never (cmp x y) (cmp y x) (antisymm x y) e f) xs ys s t
    (λ z m. among_from ys z ((a z).0 (contains_from xs z m))) (λ z m. among_from xs z ((a z).1 (contains_from ys z m)))

abbrev by_name : Built → ℕ → ℕ → Ordering
by_name b s t = slice_cmp nat_cmp (name_of b.g1 s) (name_of b.g1 t)

one_named : (b : Built) (xs ys : List ℕ) → AreSorted b xs → AreSorted b ys → ((z : ℕ) → Contains xs z ↔ Contains ys z) → xs ≡ ys
one_named b xs ys s t a = one_by (by_name b) (λ x y. nat_list_cmp_total.antisymm (name_of b.g1 x) (name_of b.g1 y)) xs ys s t a

one_numbered : (xs ys : List ℕ) → IsStrictlySortedBy nat_cmp xs → IsStrictlySortedBy nat_cmp ys → ((z : ℕ) → Contains xs z ↔ Contains ys z) → xs ≡ ys
one_numbered xs ys s t a = one_by nat_cmp nat_cmp_total.antisymm xs ys s t a

through : {P Q R : Type 0} → P ↔ Q → R ↔ Q → P ↔ R
through h k = ((λ p. k.1 (h.0 p)), (λ r. h.1 (k.0 r)))

-- ---- the first with a property is one

in_front : {A : Type 0} (us : List A) (x : A) (vs : List A) → Contains (us ++ x ∷ vs) x
in_front [] x vs = (0, omega arith, refl)
in_front (u ∷ us) x vs = let (k, lt, e) = in_front us x vs in (suc k, omega (arith, lt), e)

front_of : {A : Type 0} (u : A) (us : List A) → Contains (u ∷ us) u
front_of u us = (0, omega arith, refl)

behind : {A : Type 0} (u : A) (us : List A) (x : A) → Contains us x → Contains (u ∷ us) x
behind u us x (k, lt, e) = (suc k, omega (arith, lt), e)

pub contains_first : {A : Type 0} {P : A → Type 0} {xs : List A} {x : A} → IsFirstWith P xs x → Contains xs x
contains_first {A} {P} {xs} {x} f = subst (λ ys. Contains ys x) (sym f.split) (in_front f.before x f.after)

head_or : {A : Type 0} → A → List A → A
head_or d [] = d
head_or d (z ∷ zs) = z

tail_of : {A : Type 0} → List A → List A
tail_of [] = []
tail_of (z ∷ zs) = zs

one_split : {A : Type 0} (P : A → Type 0) (us ws : List A) (x y : A) (vs zs : List A) → us ++ x ∷ vs ≡ ws ++ y ∷ zs → P x → P y → ((z : A) → Contains us z → P z → ⊥) → ((z : A) → Contains ws z → P z → ⊥) → x ≡ y
unfolding head_or tail_of
one_split P [] [] x y vs zs e px py n m = ap (head_or x) e
one_split P [] (w ∷ ws) x y vs zs e px py n m = absurd (m w (front_of w ws) (subst P (ap (head_or x) e) px))
one_split P (u ∷ us) [] x y vs zs e px py n m = absurd (n u (front_of u us) (subst P (sym (ap (head_or x) e)) py))
one_split P (u ∷ us) (w ∷ ws) x y vs zs e px py n m =
    one_split P us ws x y vs zs (ap tail_of e) px py (λ z h. n z (behind u us z h)) (λ z h. m z (behind w ws z h))

pub one_first : {A : Type 0} (P : A → Type 0) (xs : List A) (x y : A) → IsFirstWith P xs x → IsFirstWith P xs y → x ≡ y
one_first P xs x y f g = one_split P f.before g.before x y f.after g.after (sym f.split ∙ g.split) f.has g.has f.none_before g.none_before

module _ (b : Built) (given text : List ℕ) where
  -- ---- one piece, and what is left to read

  data IsPiece (pieces : List Piece) (at : ℕ) : Piece → Type 0 where
    OfToken : {n first : ℕ} {others : List ℕ} → at < length text → IsLongest b text pieces at n → IsStrictlySortedBy nat_cmp (first ∷ others) →
        ((symbol : ℕ) → Contains (first ∷ others) symbol ↔ IsKept b text pieces at n symbol) → IsPiece pieces at (Token n (first ∷ others))
    OfSkipped : {n : ℕ} → at < length text → IsLongest b text pieces at n → IsKeptNone b text pieces at n → IsSkipped b text pieces at n → IsPiece pieces at (Skipped n)
    OfSupplied : {symbol : ℕ} → IsStuck b text pieces at → IsFirstWith (MaySupply b pieces) given symbol → IsPiece pieces at (supplied symbol)

  abbrev length_of : Piece → ℕ
  length_of (Token n symbols) = n
  length_of (Skipped n) = n

  abbrev IsEnd : (pieces : List Piece) → (at : ℕ) → Ending → Type 0
  IsEnd pieces at End = (at ≡ length text) × (HasDerivation b pieces ⊎ HasNone (MaySupply b pieces) given)
  IsEnd pieces at (Stopped place found expected) = (place ≡ at) × (at < length text) × TakesNothing b text pieces at × HasNone (MaySupply b pieces) given × AreFound b text pieces at found × AreExpected b pieces expected

  abbrev Goes : (pieces : List Piece) → (at : ℕ) → List Piece → Ending → Type 0
  Goes pieces at [] ending = IsEnd pieces at ending
  Goes pieces at (p ∷ ps) ending = IsPiece pieces at p × Goes (pieces ++ p ∷ []) (at + length_of p) ps ending

  goes_from : {at : ℕ} {pieces : List Piece} → ReadsWith b given text at pieces → (rest : List Piece) (ending : Ending) → Goes pieces at rest ending → Goes [] 0 (pieces ++ rest) ending
  goes_from Begin rest ending g = g
  goes_from (Take {at = at} {n = n} {pieces = pieces} first others r lt longest sorted exact) rest ending g =
      subst (λ ps. Goes [] 0 ps ending) (sym (append_assoc pieces (Token n (first ∷ others) ∷ []) rest)) (goes_from r (Token n (first ∷ others) ∷ rest) ending (OfToken lt longest sorted exact, g))
  goes_from (Skip {at = at} {n = n} {pieces = pieces} r lt longest none skipped) rest ending g =
      subst (λ ps. Goes [] 0 ps ending) (sym (append_assoc pieces (Skipped n ∷ []) rest)) (goes_from r (Skipped n ∷ rest) ending (OfSkipped lt longest none skipped, g))
  goes_from (Supply {at = at} {pieces = pieces} symbol r stuck first) rest ending g =
      subst (λ ps. Goes [] 0 ps ending) (sym (append_assoc pieces (supplied symbol ∷ []) rest))
      (goes_from r (supplied symbol ∷ rest) ending (OfSupplied stuck first, subst (λ k. Goes (pieces ++ supplied symbol ∷ []) k rest ending) (let e : at ≡ at + 0 = omega arith in e) g))

  -- ---- which are one

  one_longest : (pieces : List Piece) (at m n : ℕ) → IsLongest b text pieces at m → IsLongest b text pieces at n → m ≡ n
  one_longest pieces at m n l k = let x = l.longest k.start n k.candidate k.matches in let y = k.longest l.start m l.candidate l.matches in omega (arith, x, y)

  kept_first : (pieces : List Piece) (at n first : ℕ) (others : List ℕ) → ((symbol : ℕ) → Contains (first ∷ others) symbol ↔ IsKept b text pieces at n symbol) → IsKept b text pieces at n first
  kept_first pieces at n first others exact = (exact first).0 (0, omega arith, refl)

  -- nothing of the text is taken where reading is stuck
  never_token : (pieces : List Piece) (at n first : ℕ) (others : List ℕ) → IsLongest b text pieces at n → ((symbol : ℕ) → Contains (first ∷ others) symbol ↔ IsKept b text pieces at n symbol) → TakesNothing b text pieces at → ⊥
  never_token pieces at n first others longest exact nothing = (nothing n longest).0 first (kept_first pieces at n first others exact)

  never_skipped : (pieces : List Piece) (at n : ℕ) → IsLongest b text pieces at n → IsSkipped b text pieces at n → TakesNothing b text pieces at → ⊥
  never_skipped pieces at n longest skipped nothing = (nothing n longest).1 skipped

  nothing_where : (pieces : List Piece) (at : ℕ) → IsStuck b text pieces at → at < length text → TakesNothing b text pieces at
  nothing_where pieces at (Within lt nothing) below = nothing
  nothing_where pieces at (Ended e none) below = absurd (omega (arith, e, below))

  one_piece : (pieces : List Piece) (at : ℕ) (p q : Piece) → IsPiece pieces at p → IsPiece pieces at q → p ≡ q
  one_piece pieces at p q (OfToken {n = m} {first = x} {others = xs} lt l s a) (OfToken {n = n} {first = y} {others = ys} lt' k t c) =
      let e = one_longest pieces at m n l k in
      let kept : ((symbol : ℕ) → Contains (x ∷ xs) symbol ↔ IsKept b text pieces at n symbol) = subst (λ j. (symbol : ℕ) → Contains (x ∷ xs) symbol ↔ IsKept b text pieces at j symbol) e a in
      ap (λ j. Token j (x ∷ xs)) e ∙ ap (Token n) (one_numbered (x ∷ xs) (y ∷ ys) s t (λ z. through (kept z) (c z)))
  one_piece pieces at p q (OfToken {n = m} {first = x} {others = xs} lt l s a) (OfSkipped {n = n} lt' k none skipped) =
      absurd (none x (subst (λ j. IsKept b text pieces at j x) (one_longest pieces at m n l k) (kept_first pieces at m x xs a)))
  one_piece pieces at p q (OfToken {n = m} {first = x} {others = xs} lt l s a) (OfSupplied stuck first) = absurd (never_token pieces at m x xs l a (nothing_where pieces at stuck lt))
  one_piece pieces at p q (OfSkipped {n = n} lt k none skipped) (OfToken {n = m} {first = x} {others = xs} lt' l s a) =
      absurd (none x (subst (λ j. IsKept b text pieces at j x) (one_longest pieces at m n l k) (kept_first pieces at m x xs a)))
  one_piece pieces at p q (OfSkipped {n = m} lt l none skipped) (OfSkipped {n = n} lt' k none' skipped') = ap Skipped (one_longest pieces at m n l k)
  one_piece pieces at p q (OfSkipped {n = n} lt k none skipped) (OfSupplied stuck first) = absurd (never_skipped pieces at n k skipped (nothing_where pieces at stuck lt))
  one_piece pieces at p q (OfSupplied stuck first) (OfToken {n = m} {first = x} {others = xs} lt l s a) = absurd (never_token pieces at m x xs l a (nothing_where pieces at stuck lt))
  one_piece pieces at p q (OfSupplied stuck first) (OfSkipped {n = n} lt k none skipped) = absurd (never_skipped pieces at n k skipped (nothing_where pieces at stuck lt))
  one_piece pieces at p q (OfSupplied {symbol = x} stuck first) (OfSupplied {symbol = y} stuck' first') = ap supplied (one_first (MaySupply b pieces) given x y first first')

  none_first : (pieces : List Piece) (symbol : ℕ) → IsFirstWith (MaySupply b pieces) given symbol → HasNone (MaySupply b pieces) given → ⊥
  none_first pieces symbol first none = none symbol (contains_first first) first.has

  never_ended : (pieces : List Piece) (at : ℕ) (p : Piece) (ending : Ending) → IsPiece pieces at p → IsEnd pieces at ending → ⊥
  never_ended pieces at p End (OfToken lt l s a) e = let is = e.0 in omega (arith, lt, is)
  never_ended pieces at p End (OfSkipped lt l none skipped) e = let is = e.0 in omega (arith, lt, is)
  never_ended pieces at p End (OfSupplied {symbol = x} (Within lt nothing) first) e = let is = e.0 in omega (arith, lt, is)
  never_ended pieces at p End (OfSupplied {symbol = x} (Ended is none) first) e = elim e.1 [ inl tree ↦ none tree | inr empty ↦ none_first pieces x first empty ]
  never_ended pieces at p (Stopped place found expected) (OfToken {n = m} {first = x} {others = xs} lt l s a) e = never_token pieces at m x xs l a e.2
  never_ended pieces at p (Stopped place found expected) (OfSkipped {n = n} lt k none skipped) e = never_skipped pieces at n k skipped e.2
  never_ended pieces at p (Stopped place found expected) (OfSupplied {symbol = x} stuck first) e = none_first pieces x first e.3

  one_end : (pieces : List Piece) (at : ℕ) (x y : Ending) → IsEnd pieces at x → IsEnd pieces at y → x ≡ y
  one_end pieces at End End e f = refl
  one_end pieces at End (Stopped place found expected) e f = let is = e.0 in let lt = f.1 in absurd (omega (arith, is, lt))
  one_end pieces at (Stopped place found expected) End e f = let is = f.0 in let lt = e.1 in absurd (omega (arith, is, lt))
  one_end pieces at (Stopped place found expected) (Stopped other found' expected') e f =
      let p : place ≡ other = e.0 ∙ sym f.0 in
      let found_is : found ≡ found' = one_named b found found' e.4.sorted f.4.sorted (λ z. through (e.4.exact z) (f.4.exact z)) in
      let expected_is : expected ≡ expected' = one_named b expected expected' e.5.sorted f.5.sorted (λ z. through (e.5.exact z) (f.5.exact z)) in
      cc

  one_rest : (pieces : List Piece) (at : ℕ) (ps qs : List Piece) (x y : Ending) → Goes pieces at ps x → Goes pieces at qs y → (ps ≡ qs) × (x ≡ y)
  one_rest pieces at [] [] x y g h = (refl, one_end pieces at x y g h)
  one_rest pieces at [] (q ∷ qs) x y g h = absurd (never_ended pieces at q x h.0 g)
  one_rest pieces at (p ∷ ps) [] x y g h = absurd (never_ended pieces at p y g.0 h)
  one_rest pieces at (p ∷ ps) (q ∷ qs) x y g h =
      let e = one_piece pieces at p q g.0 h.0 in
      let (ps_is, x_is) = one_rest (pieces ++ p ∷ []) (at + length_of p) ps qs x y g.1 (subst (λ z. Goes (pieces ++ z ∷ []) (at + length_of z) qs y) (sym e) h.1) in
      (ap (λ z. z ∷ ps) e ∙ ap (λ zs. q ∷ zs) ps_is, x_is)

  goes : (pieces : List Piece) (ending : Ending) → IsReadingWith b given text pieces ending → Goes [] 0 (pieces ++ []) ending
  goes pieces End (HasEnded r end) = goes_from r [] End (refl, end)
  goes pieces (Stopped at found expected) (HasStopped r lt nothing none f e) = goes_from r [] (Stopped at found expected) (refl, lt, nothing, none, f, e)

pub reading_is_one : ReadingIsOne
reading_is_one b given text pieces others x y r s =
    let (same, ending) = one_rest b given text [] 0 (pieces ++ []) (others ++ []) x y (goes b given text pieces x r) (goes b given text others y s) in
    (sym (append-nil pieces) ∙ same ∙ append-nil others, ending)

-- and one list of what is expected after its pieces
pub one_expected : (b : Built) (pieces : List Piece) (xs ys : List ℕ) → AreExpected b pieces xs → AreExpected b pieces ys → xs ≡ ys
one_expected b pieces xs ys p q = one_named b xs ys p.sorted q.sorted (λ z. through (p.exact z) (q.exact z))
