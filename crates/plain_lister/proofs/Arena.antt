-- A new cell changes no earlier one, and lists of cells grow by steps.
use Rattle.std.proofs.Common.{take, get_or, ◌≡◌, ℕ, zero, suc, ◌<◌, ◌≤◌, ◌+◌, List, [], ◌∷◌, ◌++◌, length, map, refl, sym, ap, ◌∙◌, subst, arith, length-append, append_assoc}
use Rattle.std.proofs.Math.ListN.{get_or-append}
use Rattle.std.proofs.Math.Seq.{get_or-append_seam}
use Rattle.std.proofs.lemmas.List.{map-append, append-nil, take_more, take_all}
use Rattle.std.specs.List.{flat_map}
use Rattle.std.proofs.lemmas.Grind.{flat_map-append}
use Rattle.std.proofs.lemmas.List.Elements.{All-weaker, All-append}
use Rattle.plain_lister.specs.declared.Cell.{Cell}
use Rattle.plain_lister.specs.Arena.{Meant, nothing, meant, meant_at, meanings_from, meanings}
use Rattle.grammar_model.specs.Trees.{Child}
use Rattle.plain_lister.specs.Adding.{at, as_prefix, Within, Keeps, Adds}

from_push : (earlier : List Meant) (cells : List Cell) (c : Cell) → meanings_from earlier (cells ++ c ∷ []) ≡ meanings_from earlier cells ++ meant (meanings_from earlier cells) c ∷ []
from_push earlier [] c = refl
from_push earlier (x ∷ cells) c = from_push (earlier ++ meant earlier x ∷ []) cells c

from_length : (earlier : List Meant) (cells : List Cell) → length (meanings_from earlier cells) ≡ length earlier + length cells
from_length earlier [] = omega arith
from_length earlier (x ∷ cells) =
    let ih = from_length (earlier ++ meant earlier x ∷ []) cells in
    let one = length-append earlier (meant earlier x ∷ []) in
    omega arith

meanings_length : (cells : List Cell) → length (meanings cells) ≡ length cells
meanings_length cells = let e = from_length [] cells in omega arith

pub at_new : (cells : List Cell) (c : Cell) → at (cells ++ c ∷ []) (length cells) ≡ meant (meanings cells) c
at_new cells c =
    ap (λ ms. meant_at ms (length cells)) (from_push [] cells c)
    ∙ ap (λ k. meant_at (meanings cells ++ meant (meanings cells) c ∷ []) k) (sym (meanings_length cells))
    ∙ get_or-append_seam (meanings cells) (meant (meanings cells) c) [] nothing

pub keeps_push : (cells : List Cell) (c : Cell) → Keeps cells (cells ++ c ∷ [])
keeps_push cells c =
    let long = length-append cells (c ∷ []) in
    record {
      longer = omega arith;
      same = λ k h. ap (λ ms. meant_at ms k) (from_push [] cells c) ∙ get_or-append (meanings cells) (meant (meanings cells) c ∷ []) nothing k (let l = meanings_length cells in omega arith);
    }

pub keeps_all : (cells : List Cell) → Keeps cells cells
keeps_all cells = record { longer = omega arith; same = λ k h. refl }

pub keeps_then : (a b c : List Cell) → Keeps a b → Keeps b c → Keeps a c
keeps_then a b c s t =
    let l = s.longer in
    let m = t.longer in
    record { longer = omega arith; same = λ k h. t.same k (omega arith) ∙ s.same k h }

pub within_keeps : (a b : List Cell) (places : List ℕ) → Keeps a b → Within a places → Within b places
within_keeps a b places s w = let l = s.longer in All-weaker (λ k. k < length a) (λ k. k < length b) (λ k h. omega arith) places w

pub map_keeps : (a b : List Cell) (places : List ℕ) → Keeps a b → Within a places → map (at b) places ≡ map (at a) places
map_keeps a b [] s w = refl
map_keeps a b (k ∷ places) s w = λ i. s.same k (w 0 0 (omega arith)) i ∷ map_keeps a b places s (λ j d h. w (suc j) d (omega arith)) i

pub within_one : (cells : List Cell) (k : ℕ) → k < length cells → Within cells (k ∷ [])
within_one cells k h zero d lt = h
within_one cells k h (suc j) d lt = absurd (omega arith)

pub adds_nothing : (a b : List Cell) (places : List ℕ) → Keeps a b → Within a places → Adds a b places places []
adds_nothing a b places s w = record { keeps = s; within = within_keeps a b places s w; told = map_keeps a b places s w ∙ sym (append-nil (map (at a) places)) }

pub adds_push : (cells : List Cell) (c : Cell) (places : List ℕ) → Within cells places → Adds cells (cells ++ c ∷ []) places (places ++ length cells ∷ []) (meant (meanings cells) c ∷ [])
adds_push cells c places w =
    let s = keeps_push cells c in
    let long = length-append cells (c ∷ []) in
    record {
      keeps = s;
      within = All-append (λ k. k < length (cells ++ c ∷ [])) places (length cells ∷ []) (within_keeps cells (cells ++ c ∷ []) places s w) (within_one (cells ++ c ∷ []) (length cells) (omega arith));
      told = map-append (at (cells ++ c ∷ [])) places (length cells ∷ []) ∙ (λ i. map_keeps cells (cells ++ c ∷ []) places s w i ++ at_new cells c i ∷ []);
    }

pub adds_then : (a b c : List Cell) (xs ys zs : List ℕ) (m n : List Meant) → Adds a b xs ys m → Adds b c ys zs n → Adds a c xs zs (m ++ n)
adds_then a b c xs ys zs m n s t = record {
  keeps = keeps_then a b c s.keeps t.keeps;
  within = t.within;
  told = t.told ∙ ap (λ l. l ++ n) s.told ∙ append_assoc (map (at a) xs) m n;
}

pub adds_same : (a b : List Cell) (xs ys : List ℕ) (m n : List Meant) → m ≡ n → Adds a b xs ys m → Adds a b xs ys n
adds_same a b xs ys m n e s = subst (Adds a b xs ys) e s

-- ---- loops over lists of places

pub step_map : (f : ℕ → Meant) (xs : List ℕ) (i : ℕ) (m : Meant) → i < length xs → m ≡ f (get_or xs i 0) → map f (take i xs) ++ m ∷ [] ≡ map f (take (i + 1) xs)
step_map f xs i m h e = ap (λ z. map f (take i xs) ++ z ∷ []) e ∙ sym (map-append f (take i xs) (get_or xs i 0 ∷ [])) ∙ ap (map f) (sym (take_more xs i 0 h))

pub step_flat_map : (f : ℕ → List Meant) (xs : List ℕ) (i : ℕ) → i < length xs → flat_map f (take i xs) ++ f (get_or xs i 0) ≡ flat_map f (take (i + 1) xs)
step_flat_map f xs i h =
    ap (λ z. flat_map f (take i xs) ++ z) (sym (append-nil (f (get_or xs i 0))))
    ∙ sym (flat_map-append f (take i xs) (get_or xs i 0 ∷ [])) ∙ ap (flat_map f) (sym (take_more xs i 0 h))

pub adds_whole_map : (a b : List Cell) (ys zs : List ℕ) (f : ℕ → Meant) (xs : List ℕ) (n : ℕ) → length xs ≤ n → Adds a b ys zs (map f (take n xs)) → Adds a b ys zs (map f xs)
adds_whole_map a b ys zs f xs n h s = adds_same a b ys zs _ _ (ap (map f) (take_all n xs h)) s

pub adds_whole_flat_map : (a b : List Cell) (ys zs : List ℕ) (f : ℕ → List Meant) (xs : List ℕ) (n : ℕ) → length xs ≤ n → Adds a b ys zs (flat_map f (take n xs)) → Adds a b ys zs (flat_map f xs)
adds_whole_flat_map a b ys zs f xs n h s = adds_same a b ys zs _ _ (ap (flat_map f) (take_all n xs h)) s

-- one more cell, whose meaning is told in the cells at the beginning
pub adds_cell : (a b b' : List Cell) (ys zs zs' : List ℕ) (f : ℕ → Meant) (xs : List ℕ) (i : ℕ) (m : Meant) → i < length xs → m ≡ f (get_or xs i 0) →
    Adds a b ys zs (map f (take i xs)) → Adds b b' zs zs' (m ∷ []) → Adds a b' ys zs' (map f (take (i + 1) xs))
adds_cell a b b' ys zs zs' f xs i m h e s t = adds_same a b' ys zs' _ _ (step_map f xs i m h e) (adds_then a b b' ys zs zs' _ _ s t)

pub adds_list : (a b b' : List Cell) (ys zs zs' : List ℕ) (f : ℕ → List Meant) (xs : List ℕ) (i : ℕ) (m : List Meant) → i < length xs → m ≡ f (get_or xs i 0) →
    Adds a b ys zs (flat_map f (take i xs)) → Adds b b' zs zs' m → Adds a b' ys zs' (flat_map f (take (i + 1) xs))
adds_list a b b' ys zs zs' f xs i m h e s t =
    adds_same a b' ys zs' _ _ (ap (λ z. flat_map f (take i xs) ++ z) e ∙ step_flat_map f xs i h) (adds_then a b b' ys zs zs' _ _ s t)

pub map_same : (f g : ℕ → Meant) (xs : List ℕ) → ((k : ℕ) → k < length xs → f (get_or xs k 0) ≡ g (get_or xs k 0)) → map f xs ≡ map g xs
map_same f g [] h = refl
map_same f g (x ∷ xs) h = λ i. h 0 (omega arith) i ∷ map_same f g xs (λ k lt. h (suc k) (omega arith)) i

pub lasts_keep : (a b : List Cell) (prefix : ℕ) (lasts : List ℕ) → Keeps a b → prefix < length a → Within a lasts →
    map (λ k. as_prefix (Child ((at b prefix).prefix) ((at b k).tree))) lasts ≡ map (λ k. as_prefix (Child ((at a prefix).prefix) ((at a k).tree))) lasts
lasts_keep a b prefix lasts s h w = map_same _ _ lasts (λ i lt z. as_prefix (Child ((s.same prefix h z).prefix) ((s.same (get_or lasts i 0) (w i 0 lt) z).tree)))
