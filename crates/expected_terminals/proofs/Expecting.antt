-- What is known of the terminals that the last set waits for.
use Rattle.std.proofs.Common.{◌≡◌, ◌⊎◌, inl, inr, ◌↔◌, ℕ, ◌+◌, ◌-◌, ◌<◌, ◌≤◌, ◌++◌, List, [], ◌∷◌, length, Option, Some, None, slice_set, Contains, refl, sym, ◌∙◌, ap, subst, arith, length-append}
use Rattle.std.specs.Prelude.{vec_capacity, slice_index_or, IfSome}
use Rattle.std.specs.declared.vec.Vec.{Vec}
use Rattle.std.specs.declared.alloc.Global.{Global}
use Rattle.std.proofs.lemmas.Bool.{cases_lt}
use Rattle.std.proofs.Math.ListN.{get_or-append}
use Rattle.std.proofs.Math.Seq.{get_or-append_seam}
use Rattle.std.proofs.lemmas.Option.{slice_get-get_or}
use Rattle.recognizer_model.specs.declared.Item.{Item}
use Rattle.recognizer_model.specs.Flat.{FlatGrammar, part_of}
use Rattle.jagged.specs.Rows.{row_at as list_at}
use Rattle.item_rows.specs.Rows.{row_at, AreAlike}
use Rattle.item_rows.specs.Kept.{WaitsForTerminal}
use Rattle.expected_terminals.specs.Marks.{HasRoom, AreAtMost, IsAwaitedTerminal, AreTerminalsOf}
use Rattle.expected_terminals.specs.declared.marks.Marks.{Marks}
use Rattle.expected_terminals.proofs.Marking.{got_set, got_contains}
use Rattle.expected_terminals.specs.Expected.{place_told, list_told, KeepsLists, NotesTerminals, AreNotes, WaitsByList, WaitAlike, IsOfListed, KnowsLast}
use Rattle.expected_terminals.specs.declared.expected.Note.{Note}
use Rattle.expected_terminals.specs.declared.expected.Expected.{Expected}

pub one_row : (rows : List (List Item)) (row : List Item) → rows ≡ row ∷ [] → length rows ≡ 1
one_row rows row e = ap (λ (l : List (List Item)). length l) e

pub row_longer : (old new : List (List Item)) (row : List Item) → new ≡ old ++ row ∷ [] → length new ≡ length old + 1
row_longer old new row e = ap (λ (l : List (List Item)). length l) e ∙ length-append old (row ∷ [])

-- room for all terminals stays where all marks are taken away
pub room_stays : (g : FlatGrammar) (old new : Marks) → length new.rows.items ≡ length old.rows.items → new.listed ≡ old.listed → HasRoom g old → HasRoom g new
room_stays g old new long same room = record {
  all = (let a = room.all in omega arith);
  room = (let e = ap (λ (v : Vec ℕ Global). vec_capacity v) same in let r = room.room in omega arith);
}

pub most_more : (j k : ℕ) (marks : List ℕ) → j ≤ k → AreAtMost j marks → AreAtMost k marks
most_more j k marks le most x m at = let b = most x m at in omega arith

-- rows of the same dotted rules wait for the same terminals
alike_waits : (g : FlatGrammar) (a b : List Item) → AreAlike a b → (t : ℕ) → IsAwaitedTerminal g a t → IsAwaitedTerminal g b t
alike_waits g a b same t (item, h, (x, w, s)) =
    let (other, there, r, d) = (same item.rule item.dot).0 (item, h, refl, refl) in
    (other, there, (x, (λ i. part_of g (r i) (d i)) ∙ w, s))

pub wait_alike : (g : FlatGrammar) (a b : List Item) → AreAlike a b → WaitAlike g a b
wait_alike g a b same t = (alike_waits g a b same t, alike_waits g b a (λ rule dot. ((same rule dot).1, (same rule dot).0)) t)

-- so do rows that wait by the items of one list, wherever they begin
list_waits : (g : FlatGrammar) (a b list : List Item) (i j : ℕ) → WaitsByList g a list i → WaitsByList g b list j → (t : ℕ) → IsAwaitedTerminal g a t → IsAwaitedTerminal g b t
list_waits g a b list i j by also t (item, h, (x, w, s)) =
    let (_, held) = (by item (x, w, (t, s))).0 h in
    let other : Item = record item { origin = j } in
    (other, (also other (x, w, (t, s))).1 (refl, held), (x, w, s))

pub wait_by_list : (g : FlatGrammar) (a b list : List Item) (i j : ℕ) → WaitsByList g a list i → WaitsByList g b list j → WaitAlike g a b
wait_by_list g a b list i j by also t = (list_waits g a b list i j by also t, list_waits g b a list j i also by t)

pub terminals_same : (g : FlatGrammar) (a b : List Item) (terminals : List ℕ) → WaitAlike g a b → AreTerminalsOf g a terminals → AreTerminalsOf g b terminals
terminals_same g a b terminals same are = record {
  order = are.order;
  exact = λ t. (λ h. (same t).0 ((are.exact t).0 h), λ w. (are.exact t).1 ((same t).1 w));
}

-- the terminals of the last row, at its number
pub at_last : (g : FlatGrammar) (sets : List (List Item)) (j : ℕ) (terminals : List ℕ) → length sets ≡ j + 1 → AreTerminalsOf g (row_at sets j) terminals → AreTerminalsOf g (row_at sets (length sets - 1)) terminals
at_last g sets j terminals long are = subst (λ n. AreTerminalsOf g (row_at sets n) terminals) (let e : j ≡ length sets - 1 = omega arith in e) are

-- a note where sets and lists are added
pub note_moved : (g : FlatGrammar) (sets others : List (List Item)) (lists more : List (List ℕ)) (note : Note) → ((j : ℕ) → j < length sets → (j < length others) × (row_at others j ≡ row_at sets j)) → KeepsLists lists more →
    NotesTerminals g sets lists note → NotesTerminals g others more note
note_moved g sets others lists more note kept keeps is = record {
  place = (kept note.place is.place).0;
  like = (kept note.like is.like).0;
  list = keeps.there note.list is.list;
  are = moved note.place is.place is.are;
  are_like = moved note.like is.like is.are_like;
}
  where
    moved : (j : ℕ) → j < length sets → AreTerminalsOf g (row_at sets j) (list_at lists note.list) → AreTerminalsOf g (row_at others j) (list_at more note.list)
    moved j lt are =
        subst (λ (l : List Item). AreTerminalsOf g l (list_at more note.list)) (sym (kept j lt).1) (subst (λ (l : List ℕ). AreTerminalsOf g (row_at sets j) l) (sym (keeps.same note.list is.list)) are)

pub same_lists : (lists : List (List ℕ)) → KeepsLists lists lists
same_lists lists = record { there = λ k lt. lt; same = λ k lt. refl }

pub one_list_more : (lists more : List (List ℕ)) (list : List ℕ) → more ≡ lists ++ list ∷ [] → KeepsLists lists more × (length lists < length more) × (list_at more (length lists) ≡ list)
one_list_more lists more list e = (
  record { there = λ k lt. (let l = long in omega arith); same = λ k lt. ap (λ (z : List (List ℕ)). list_at z k) e ∙ get_or-append lists (list ∷ []) [] k lt },
  (let l = long in omega arith),
  ap (λ (z : List (List ℕ)). list_at z (length lists)) e ∙ get_or-append_seam lists list [] [],
)
  where
    long : length more ≡ length lists + 1
    long = ap (λ (z : List (List ℕ)). length z) e ∙ length-append lists (list ∷ [])

pub notes_still : (g : FlatGrammar) (old new : List (List Item)) (row : List Item) (lists : List (List ℕ)) (notes : List (Option Note)) → new ≡ old ++ row ∷ [] → AreNotes g old lists notes → AreNotes g new lists notes
notes_still g old new row lists notes e are note h =
    note_moved g old new lists lists note
    (λ j lt. ((let l = row_longer old new row e in omega arith), ap (λ (s : List (List Item)). row_at s j) e ∙ get_or-append old (row ∷ []) [] j lt))
    (same_lists lists) (are note h)

pub no_notes : (g : FlatGrammar) (sets : List (List Item)) (lists : List (List ℕ)) (notes : List (Option Note)) → notes ≡ [] → AreNotes g sets lists notes
no_notes g sets lists notes e = subst (λ (l : List (Option Note)). AreNotes g sets lists l) (sym e) (λ note (k, lt, s). absurd (omega arith))

-- what holds of a note that there is
pub of_some : (told : Option Note) (P : Note → Type 0) (note : Note) → IfSome told P → told ≡ Some note → P note
of_some told P note h e = subst (λ (o : Option Note). IfSome o P) e h

pub each_some : (told : Option Note) (P Q : Note → Type 0) → ((note : Note) → P note → Q note) → IfSome told P → IfSome told Q
each_some None P Q to h = tt
each_some (Some note) P Q to h = to note h

pub right_told : (g : FlatGrammar) (sets : List (List Item)) (lists : List (List ℕ)) (notes seen : List (Option Note)) (told : Option Note) → seen ≡ notes → AreNotes g sets lists notes → IfSome told (λ note. Contains seen (Some note)) →
    IfSome told (NotesTerminals g sets lists)
right_told g sets lists notes seen told same are h = each_some told (λ note. Contains seen (Some note)) (NotesTerminals g sets lists) (λ note in_seen. are note (subst (λ (l : List (Option Note)). Contains l (Some note)) same in_seen)) h

-- a note of the last set
module _ (g : FlatGrammar) (sets : List (List Item)) (old lists : List (List ℕ)) (told : Option Note) (j : ℕ) (listed : List ℕ) (long : length sets ≡ j + 1) (right : IfSome told (NotesTerminals g sets old))
    (are : AreTerminalsOf g (row_at sets j) listed) where
  abbrev IsPlace : Note → Type 0
  IsPlace note = (note.place ≡ j) ⊎ ((other : Note) × (told ≡ Some other) × (list_at old other.list ≡ listed) × (note.place ≡ other.place))

  there : (note : Note) → IsPlace note → note.place < length sets
  there note (inl e) = omega arith
  there note (inr (other, is_told, same, e)) = let h = (of_some told (NotesTerminals g sets old) other right is_told).place in omega arith

  waits : (note : Note) → IsPlace note → AreTerminalsOf g (row_at sets note.place) listed
  waits note (inl e) = subst (λ n. AreTerminalsOf g (row_at sets n) listed) (sym e) are
  waits note (inr (other, is_told, same, e)) =
      subst (λ n. AreTerminalsOf g (row_at sets n) listed) (sym e) (subst (λ (z : List ℕ). AreTerminalsOf g (row_at sets other.place) z) same (of_some told (NotesTerminals g sets old) other right is_told).are)

  pub note_new : (note : Note) → IsOfListed old lists listed told j note → NotesTerminals g sets lists note
  note_new note is = record {
    place = there note is.place;
    like = (let l = is.like in omega arith);
    list = is.list;
    are = subst (λ (z : List ℕ). AreTerminalsOf g (row_at sets note.place) z) (sym is.same) (waits note is.place);
    are_like = subst (λ (z : List ℕ). AreTerminalsOf g (row_at sets note.like) z) (sym is.same) (subst (λ n. AreTerminalsOf g (row_at sets n) listed) (sym is.like) are);
  }

  pub last_told : (row : List Item) (now : List ℕ) (o : Option Note) → now ≡ listed → IfSome o (IsOfListed old lists listed told j) → AreTerminalsOf g row listed → AreTerminalsOf g row (list_told lists now o)
  last_told row now None e h w = subst (λ (z : List ℕ). AreTerminalsOf g row z) (sym e) w
  last_told row now (Some note) e h w = subst (λ (z : List ℕ). AreTerminalsOf g row z) (sym h.same) w

-- what is read of the last set
module _ (g : FlatGrammar) (sets : List (List Item)) (expected : Expected) (known : KnowsLast g sets expected) (some : 0 < length sets) where
  pub place_there : (o : Option Note) → expected.last ≡ o → place_told (length sets - 1) o < length sets
  place_there None e = omega arith
  place_there (Some note) e = (known.note note e).place

  pub place_waits : (o : Option Note) → expected.last ≡ o → (t : ℕ) → IsAwaitedTerminal g (row_at sets (place_told (length sets - 1) o)) t ↔ IsAwaitedTerminal g (row_at sets (length sets - 1)) t
  place_waits None e t = ((λ h. h), (λ h. h))
  place_waits (Some note) e t =
      let here = (known.note note e).are.exact t in
      let last = (subst (λ (o : Option Note). AreTerminalsOf g (row_at sets (length sets - 1)) (list_told expected.lists expected.marks.listed.items o)) e known.last).exact t in
      ((λ h. last.0 (here.1 h)), (λ h. here.0 (last.1 h)))

pub expected_of : (g : FlatGrammar) (row : List Item) (terminals list : List ℕ) (E : ℕ → Type 0) → AreTerminalsOf g row terminals → list ≡ terminals → ((t : ℕ) → IsAwaitedTerminal g row t ↔ E t) → (t : ℕ) → Contains list t ↔ E t
expected_of g row terminals list E are same law t = (
  λ h. (law t).0 ((are.exact t).0 (subst (λ (l : List ℕ). Contains l t) same h)),
  λ e. subst (λ (l : List ℕ). Contains l t) (sym same) ((are.exact t).1 ((law t).1 e)),
)

-- notes with one put in its place
pub note_put : (notes : List (Option Note)) (kind : ℕ) (note other : Note) → Contains (slice_set notes kind (Some note)) (Some other) → Contains notes (Some other) ⊎ (note ≡ other)
note_put notes kind note other (k, lt, e) = elim (got_set notes kind (Some note) k (Some other) (slice_get-get_or (slice_set notes kind (Some note)) k (Some other) lt ∙ ap Some e)) [
  | inl (_, old) ↦ inl (got_contains notes k (Some other) old)
  | inr (_, new) ↦ inr (same_note note other (sym new))
]
  where
    same_note : (a b : Note) → Some a ≡ Some b → a ≡ b
    same_note a b e = cc

-- notes with room for more
pub notes_filled : (old new : List (Option Note)) (size : ℕ) (note : Note) → length new ≡ size → ((k : ℕ) (d : Option Note) → k < size → k < length old → slice_index_or new k d ≡ slice_index_or old k d) → ((k : ℕ) (d : Option Note) → length old ≤ k → k < size → slice_index_or new k d ≡ None) →
    Contains new (Some note) → Contains old (Some note)
notes_filled old new size note long before after (k, lt, e) = elim (cases_lt k (length old)) [
  | inl l ↦ (k, l, sym (before k (Some note) (omega arith) l) ∙ e)
  | inr le ↦ absurd (none (sym (after k (Some note) le (omega arith)) ∙ e))
]
  where
    none : None ≡ Some note → ⊥
    none e = absurd (cc)
