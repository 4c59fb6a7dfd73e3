-- A class from its items.
use Rattle.std.proofs.Common.{◌≡◌, ◌∙◌, sym, ap, ℕ, ◌==◌, slice_index, List, Result, Ok, Err, nat_lt, subst}
use Rattle.language_model.specs.declared.class.ClassItem.{ClassItem}
use Rattle.language_model.specs.declared.class.ClassFault.{ClassFault}
use Rattle.language_model.specs.declared.class.Piece.{Piece}
use Rattle.char_class.specs.declared.items.ItemsError.{ItemsError}
use Rattle.char_class.specs.declared.items.ItemsError.TheVariants.{Fault, Memory}
use Rattle.char_class.specs.declared.set.ClassRefusal.{ClassRefusal}
use Rattle.char_class.specs.declared.set.ClassRefusal.TheVariants.{BadEscape, BadRange, BadPosix, NoMemory}
use Rattle.char_class.specs.Reading.{Fails, RefusesBy, RefusedAs, Refuses}
use Rattle.language_model.specs.Classes.{Class, class_of, class_with, items_of, pieces_of, without_caret, between_brackets, modifier_len}

abbrev the_err : ClassFault → Result Class ClassFault
the_err f = Err f

pub class_of_items : (text : List ℕ) (read : Result (List ClassItem) ClassFault) → items_of (pieces_of (without_caret (between_brackets text))) ≡ read → class_of text ≡ class_with (slice_index (between_brackets text) 0 == 94) (nat_lt 0 (modifier_len text)) read
unfolding class_of
class_of_items text read e = ap (class_with (slice_index (between_brackets text) 0 == 94) (nat_lt 0 (modifier_len text))) e

-- the items that code finds in what it passes on
pub items_found : (text inner pieces_text : List ℕ) (pieces : List Piece) (read : Result (List ClassItem) ClassFault) → inner ≡ between_brackets text → pieces_text ≡ without_caret inner → pieces ≡ pieces_of pieces_text → items_of pieces ≡ read → items_of (pieces_of (without_caret (between_brackets text))) ≡ read
items_found text inner pieces_text pieces read inner_is rest_is pieces_is read_is = ap (λ t. items_of (pieces_of (without_caret t))) (sym inner_is) ∙ ap (λ t. items_of (pieces_of t)) (sym rest_is) ∙ ap items_of (sym pieces_is) ∙ read_is

pub refused : (e : ItemsError) (r : ClassRefusal) (text : List ℕ) → RefusedAs e r → Fails e (items_of (pieces_of (without_caret (between_brackets text)))) → RefusesBy r (class_of text)
refused Memory r text told none = subst (λ x. RefusesBy x (class_of text)) (sym told) tt
refused (Fault f) r text told is = by_refusal r told
  where
    read : class_of text ≡ Err f
    read = class_of_items text (Err f) is

    by_refusal : (x : ClassRefusal) → RefusesBy x (the_err f) × (x ≡ NoMemory → ⊥) → RefusesBy x (class_of text)
    by_refusal BadEscape h = read ∙ h.0
    by_refusal BadRange h = read ∙ h.0
    by_refusal BadPosix h = read ∙ h.0
    by_refusal NoMemory h = tt

-- the characters that a text has
pub of_chars : (result : Result Class ClassRefusal) (list cs : List ℕ) → cs ≡ list → Refuses result (class_of list) → Refuses result (class_of cs)
of_chars result list cs same h = subst (λ l. Refuses result (class_of l)) (sym same) h

-- the class that code makes of what it passes on
pub class_made : (text inner : List ℕ) (c m : ℕ) (items : List ClassItem) (k : Class) → inner ≡ between_brackets text → c ≡ slice_index inner 0 → m ≡ modifier_len text → k ≡ record { negated = c == 94; caseless = nat_lt 0 m; items = items } → class_with (slice_index (between_brackets text) 0 == 94) (nat_lt 0 (modifier_len text)) (Ok items) ≡ Ok k
class_made text inner c m items k inner_is c_is m_is k_is =
    let make : ℕ → ℕ → Result Class ClassFault = λ x y. Ok (record { negated = x == 94; caseless = nat_lt 0 y; items = items }) in
    sym (ap Ok k_is ∙ ap (λ x. make x m) (c_is ∙ ap (λ t. slice_index t 0) inner_is) ∙ ap (make (slice_index (between_brackets text) 0)) m_is)
