-- How far the text of a value is read: whatever values come next make one value of it, and whatever value has the text is made so.
use Rattle.std.proofs.Common.{◌≡◌, ◌≢◌, ℕ, ◌+◌, ◌<◌, ◌==◌, true, false, List, [], ◌∷◌, ◌++◌, length, get_or, refl, sym, ap, ◌∙◌, arith, append_assoc, append-nil, subst, map}
use Rattle.grammar_model.specs.Values.{Value, Values, Undefined, Number, Text, ListOf, NoValue, MoreValues}
use Rattle.grammar_model.specs.Text.{text_of, texts_of, texts_after}
use Rattle.tree_text.specs.declared.read.Place.{Place}
use Rattle.tree_text.specs.declared.read.Place.TheVariants.{Value as ValueNext, Items as ItemsNext, After}
use Rattle.std.specs.String.{string_bytes}
use Rattle.std.proofs.lemmas.Bool.{eqb-true}
use Rattle.std.proofs.lemmas.List.{map-append, nil_from_length}
use Rattle.tree_text.specs.declared.part.Part.{Part as PartCode}
use Rattle.tree_text.specs.declared.part.Part.TheVariants.{Undefined as UndefinedCode, Number as NumberCode, Text as TextCode, Open as OpenCode, Close as CloseCode}
use Rattle.tree_text.specs.Parts.{Part, part_of, Opens, Closes, Atom, parts_of, parts_of_all, IsHeld, AreHeld}
use Rattle.tree_text.specs.Prefixes.{NeverBegins, IsNumberEnd, IsAtom, BeginsWith, IsPrefixOf, CanEnd, RefusesPrefix}
use Rattle.tree_text.specs.Reading.{IsRead, IsNoText, RefusesText}
use Rattle.tree_text.specs.declared.part.ReadRefusal.{ReadRefusal}
use Rattle.tree_text.specs.declared.part.ReadRefusal.TheVariants.{NotValue, NoMemory}
use Rattle.tree_text.proofs.Prefixes.{Kind, IsOpen, IsUndefined, IsTextOf, IsNumberOf, kind}

-- what is left of each open list, the innermost first, as text and as parts
abbrev behind_text : List Values → List ℕ
behind_text [] = []
behind_text (items ∷ lists) = texts_after items ++ 93 ∷ behind_text lists

abbrev behind_parts : List Values → List Part
behind_parts [] = []
behind_parts (items ∷ lists) = parts_of_all items ++ Closes ∷ behind_parts lists

abbrev AllHeld : List Values → Type 0
AllHeld [] = Unit {0}
AllHeld (items ∷ lists) = AreHeld items × AllHeld lists

-- what comes at a place: a value first, or the items of a list that has just begun
abbrev coming_text : Place → Value → List Values → List ℕ
coming_text ValueNext v lists = text_of v ++ behind_text lists
coming_text ItemsNext v [] = []
coming_text ItemsNext v (items ∷ lists) = texts_of items ++ 93 ∷ behind_text lists
coming_text After v lists = behind_text lists

abbrev coming_parts : Place → Value → List Values → List Part
coming_parts ValueNext v lists = parts_of v ++ behind_parts lists
coming_parts ItemsNext v lists = behind_parts lists
coming_parts After v lists = behind_parts lists

-- a value comes next only at its place
abbrev IsPlain : Place → Value → Type 0
IsPlain ValueNext v = Unit {0}
IsPlain ItemsNext v = v ≡ Undefined
IsPlain After v = v ≡ Undefined

record Coming (whole : Value → List Values → Value) (place : Place) (depth : ℕ) (rest : List ℕ) (w : Value) : Type 0 where
  value : Value
  lists : List Values
  count : length lists ≡ depth
  held : IsHeld value
  all_held : AllHeld lists
  plain : IsPlain place value
  made : w ≡ whole value lists
  is : rest ≡ coming_text place value lists

-- a list has begun, where its items come next
abbrev IsOpenAt : Place → ℕ → Type 0
IsOpenAt ValueNext depth = Unit {0}
IsOpenAt ItemsNext depth = 0 < depth
IsOpenAt After depth = Unit {0}

pub record Reading (text : List ℕ) (place : Place) (depth : ℕ) (parts : List Part) (rest : List ℕ) : Type 0 where
  taken : List ℕ
  cut : text ≡ taken ++ rest
  whole : Value → List Values → Value
  text_is : (v : Value) (lists : List Values) → length lists ≡ depth → text_of (whole v lists) ≡ taken ++ coming_text place v lists
  parts_are : (v : Value) (lists : List Values) → length lists ≡ depth → parts_of (whole v lists) ≡ parts ++ coming_parts place v lists
  held : (v : Value) (lists : List Values) → length lists ≡ depth → IsHeld v → AllHeld lists → IsHeld (whole v lists)
  only : (w : Value) → IsHeld w → text_of w ≡ text → Coming whole place depth rest w
  begun : IsOpenAt place depth

pub begin : (text : List ℕ) (parts : List Part) → parts ≡ [] → Reading text ValueNext 0 parts text
begin text parts none = record {
  taken = [];
  cut = refl;
  whole = λ v lists. v;
  text_is = λ v lists e. sym (ap (λ l. text_of v ++ behind_text l) (nil_from_length lists e) ∙ append-nil (text_of v));
  parts_are = λ v lists e. sym ((λ i. none i ++ (parts_of v ++ behind_parts (nil_from_length lists e i))) ∙ append-nil (parts_of v));
  held = λ v lists e h all. h;
  only = λ w h e. record { value = w; lists = []; count = refl; held = h; all_held = tt; plain = tt; made = refl; is = sym e ∙ sym (append-nil (text_of w)) };
  begun = tt;
}

-- what a value begins with
data Begins (rest : List ℕ) (v : Value) (after : List ℕ) : Type 0 where
  AtomBegins : BeginsWith rest (Atom v) after → parts_of v ≡ Atom v ∷ [] → Begins rest v after
  ListBegins : (items : Values) → v ≡ ListOf items → AreHeld items → BeginsWith rest Opens (texts_of items ++ 93 ∷ after) → Begins rest v after

list_text : (items : Values) (after : List ℕ) → text_of (ListOf items) ++ after ≡ 91 ∷ (texts_of items ++ 93 ∷ after)
list_text items after = ap (λ b. 91 ∷ b) (append_assoc (texts_of items) (93 ∷ []) after)

begins_by : (rest : List ℕ) (v : Value) (after : List ℕ) → IsHeld v → IsNumberEnd after → rest ≡ text_of v ++ after → Begins rest v after
begins_by rest Undefined after held end is = AtomBegins (record { is = is; prefix = (tt, tt); ends = tt }) refl
begins_by rest (Number n) after held end is = AtomBegins (record { is = is; prefix = (held, tt); ends = end }) refl
begins_by rest (Text bytes) after held end is = AtomBegins (record { is = is; prefix = (held, tt); ends = tt }) refl
begins_by rest (ListOf items) after held end is = ListBegins items refl held (record { is = is ∙ list_text items after; prefix = tt; ends = tt })

-- after a value comes no digit
end_by : (items : Values) (more : List ℕ) → IsNumberEnd (texts_after items ++ 93 ∷ more)
end_by NoValue more d = omega arith
end_by (MoreValues first rest) more d = omega arith

ends : (lists : List Values) → IsNumberEnd (behind_text lists)
ends [] d = omega arith
ends (items ∷ lists) d = end_by items (behind_text lists) d

-- a value does not begin with an end of a list
not_end_by : (rest : List ℕ) (p : Part) (r : List ℕ) → Kind rest p r → get_or rest 0 0 ≡ 93 → ⊥
not_end_by rest p r (IsOpen part is first) e = omega arith
not_end_by rest p r (IsUndefined part is first) e = omega arith
not_end_by rest p r (IsTextOf bytes part utf8 is first) e = omega arith
not_end_by rest p r (IsNumberOf n part is first) e = omega arith

not_end : (rest : List ℕ) (v : Value) (after : List ℕ) → Begins rest v after → get_or rest 0 0 ≡ 93 → ⊥
not_end rest v after (AtomBegins begins one) e = not_end_by rest (Atom v) after (kind rest (Atom v) after begins) e
not_end rest v after (ListBegins items is held begins) e = not_end_by rest Opens (texts_of items ++ 93 ∷ after) (kind rest Opens (texts_of items ++ 93 ∷ after) begins) e

first_same : (a b : ℕ) (r s : List ℕ) → a ∷ r ≡ b ∷ s → a ≡ b
first_same a b r s e = cc

comma_not_end : (r s : List ℕ) → 93 ∷ r ≡ 44 ∷ s → ⊥
comma_not_end r s e = omega (arith, first_same 93 44 r s e)

-- the first item of a list that has just begun, and the others
items_text : (v : Value) (items : Values) (more : List ℕ) → texts_of (MoreValues v items) ++ 93 ∷ more ≡ text_of v ++ (texts_after items ++ 93 ∷ more)
items_text v items more = append_assoc (text_of v) (texts_after items) (93 ∷ more)

after_text : (v : Value) (items : Values) (more : List ℕ) → texts_after (MoreValues v items) ++ 93 ∷ more ≡ 44 ∷ (text_of v ++ (texts_after items ++ 93 ∷ more))
after_text v items more = ap (λ b. 44 ∷ b) (append_assoc (text_of v) (texts_after items) (93 ∷ more))

items_parts : (v : Value) (items : Values) (more : List Part) → parts_of_all (MoreValues v items) ++ Closes ∷ more ≡ parts_of v ++ (parts_of_all items ++ Closes ∷ more)
items_parts v items more = append_assoc (parts_of v) (parts_of_all items) (Closes ∷ more)

-- a value before the others of the innermost list
abbrev with_first : Value → List Values → List Values
with_first v [] = []
with_first v (items ∷ lists) = MoreValues v items ∷ lists

no_list : (depth : ℕ) → 0 < depth → length {A = Values} [] ≡ depth → ⊥
no_list depth some e = omega arith

held_first : (v : Value) (lists : List Values) → IsHeld v → AllHeld lists → AllHeld (with_first v lists)
held_first v [] h all = tt
held_first v (items ∷ lists) h all = ((h, all.0), all.1)

length-with_first : (v : Value) (lists : List Values) → length (with_first v lists) ≡ length lists
length-with_first v [] = refl
length-with_first v (items ∷ lists) = refl

-- where a list that has just begun does not end, its first item comes
items_coming : (v : Value) (lists : List Values) → 0 < length lists → coming_text ItemsNext Undefined (with_first v lists) ≡ text_of v ++ behind_text lists
items_coming v [] some = absurd (omega arith)
items_coming v (items ∷ lists) some = items_text v items (behind_text lists)

first_parts : (v : Value) (lists : List Values) → 0 < length lists → behind_parts (with_first v lists) ≡ parts_of v ++ behind_parts lists
first_parts v [] some = absurd (omega arith)
first_parts v (items ∷ lists) some = items_parts v items (behind_parts lists)

items_only : (whole : Value → List Values → Value) (depth : ℕ) (rest : List ℕ) (w value : Value) (lists : List Values) → 0 < depth → NeverBegins rest (93 ∷ []) → length lists ≡ depth → AllHeld lists → value ≡ Undefined → w ≡ whole value lists →
    rest ≡ coming_text ItemsNext value lists → Coming (λ v ls. whole Undefined (with_first v ls)) ValueNext depth rest w
items_only whole depth rest w value [] some never count all plain made is = absurd (no_list depth some count)
items_only whole depth rest w value (NoValue ∷ lists) some never count all plain made is = absurd (never (behind_text lists) is)
items_only whole depth rest w value (MoreValues first more ∷ lists) some never count all plain made is = record {
  value = first;
  lists = more ∷ lists;
  count = count;
  held = all.0.0;
  all_held = (all.0.1, all.1);
  plain = tt;
  made = made ∙ ap (λ v. whole v (MoreValues first more ∷ lists)) plain;
  is = is ∙ items_text first more (behind_text lists);
}

items_value : (text : List ℕ) (depth : ℕ) (parts : List Part) (rest : List ℕ) → Reading text ItemsNext depth parts rest → NeverBegins rest (93 ∷ []) → Reading text ValueNext depth parts rest
items_value text depth parts rest reading never = record {
  taken = reading.taken;
  cut = reading.cut;
  whole = λ v lists. reading.whole Undefined (with_first v lists);
  text_is = λ v lists e.
      let some : 0 < length lists = omega (arith, reading.begun) in
      reading.text_is Undefined (with_first v lists) (length-with_first v lists ∙ e) ∙ ap (λ b. reading.taken ++ b) (items_coming v lists some);
  parts_are = λ v lists e.
      let some : 0 < length lists = omega (arith, reading.begun) in
      reading.parts_are Undefined (with_first v lists) (length-with_first v lists ∙ e) ∙ ap (λ b. parts ++ b) (first_parts v lists some);
  held = λ v lists e h all. reading.held Undefined (with_first v lists) (length-with_first v lists ∙ e) tt (held_first v lists h all);
  only = λ w h e.
      let k = reading.only w h e in
      items_only reading.whole depth rest w k.value k.lists reading.begun never k.count k.all_held k.plain k.made k.is;
  begun = tt;
}

pub to_value : (text : List ℕ) (place : Place) (depth : ℕ) (parts : List Part) (rest : List ℕ) → Reading text place depth parts rest → place ≢ After → (CanEnd place depth → NeverBegins rest (93 ∷ [])) → Reading text ValueNext depth parts rest
to_value text ValueNext depth parts rest reading other never = reading
to_value text ItemsNext depth parts rest reading other never = items_value text depth parts rest reading (never reading.begun)
to_value text After depth parts rest reading other never = absurd (other refl)

-- an atom is read
atom_parts : (x : Value) → IsAtom x → parts_of x ≡ Atom x ∷ []
atom_parts Undefined h = refl
atom_parts (Number n) h = refl
atom_parts (Text bytes) h = refl
atom_parts (ListOf items) h = absurd h

same_atom : (v x : Value) → Atom v ≡ Atom x → v ≡ x
same_atom v x e = cc

atom_only : (whole : Value → List Values → Value) (depth : ℕ) (rest left : List ℕ) (w x value : Value) (lists : List Values) → IsPrefixOf rest (Atom x) left → length lists ≡ depth → AllHeld lists → w ≡ whole value lists →
    Begins rest value (behind_text lists) → Coming (λ v ls. whole x ls) After depth left w
atom_only whole depth rest left w x value lists prefix count all made (AtomBegins begins one) =
    let same = prefix.only (Atom value) (behind_text lists) begins in
    record {
      value = Undefined;
      lists = lists;
      count = count;
      held = tt;
      all_held = all;
      plain = refl;
      made = made ∙ ap (λ v. whole v lists) (same_atom value x same.0);
      is = sym same.1;
    }
atom_only whole depth rest left w x value lists prefix count all made (ListBegins items is held begins) =
    let same = prefix.only Opens (texts_of items ++ 93 ∷ behind_text lists) begins in
    let bad : Opens ≡ Atom x = same.0 in cc

pub atom_step : (text : List ℕ) (depth : ℕ) (parts : List Part) (rest left : List ℕ) (x : Value) → Reading text ValueNext depth parts rest → IsPrefixOf rest (Atom x) left → Reading text After depth (parts ++ Atom x ∷ []) left
atom_step text depth parts rest left x reading prefix = record {
  taken = reading.taken ++ text_of x;
  cut = reading.cut ∙ ap (λ b. reading.taken ++ b) prefix.begins.is ∙ sym (append_assoc reading.taken (text_of x) left);
  whole = λ v lists. reading.whole x lists;
  text_is = λ v lists e. reading.text_is x lists e ∙ sym (append_assoc reading.taken (text_of x) (behind_text lists));
  parts_are = λ v lists e.
      reading.parts_are x lists e ∙ ap (λ b. parts ++ (b ++ behind_parts lists)) (atom_parts x prefix.begins.prefix.1) ∙ sym (append_assoc parts (Atom x ∷ []) (behind_parts lists));
  held = λ v lists e h all. reading.held x lists e prefix.begins.prefix.0 all;
  only = λ w h e.
      let k = reading.only w h e in
      atom_only reading.whole depth rest left w x k.value k.lists prefix k.count k.all_held k.made (begins_by rest k.value (behind_text k.lists) k.held (ends k.lists) k.is);
  begun = tt;
}

-- a list begins
abbrev with_list : (Value → List Values → Value) → List Values → Value
with_list whole [] = Undefined
with_list whole (items ∷ lists) = whole (ListOf items) lists

list_parts : (items : Values) (more : List Part) → parts_of (ListOf items) ++ more ≡ Opens ∷ (parts_of_all items ++ Closes ∷ more)
list_parts items more = ap (λ b. Opens ∷ b) (append_assoc (parts_of_all items) (Closes ∷ []) more)

open_only : (whole : Value → List Values → Value) (depth deeper : ℕ) (rest left : List ℕ) (w value : Value) (lists : List Values) → deeper ≡ depth + 1 → IsPrefixOf rest Opens left → length lists ≡ depth → AllHeld lists → w ≡ whole value lists →
    Begins rest value (behind_text lists) → Coming (λ v ls. with_list whole ls) ItemsNext deeper left w
open_only whole depth deeper rest left w value lists more prefix count all made (AtomBegins begins one) =
    let same = prefix.only (Atom value) (behind_text lists) begins in
    let bad : Atom value ≡ Opens = same.0 in cc
open_only whole depth deeper rest left w value lists more prefix count all made (ListBegins items is held begins) =
    let same = prefix.only Opens (texts_of items ++ 93 ∷ behind_text lists) begins in
    record {
      value = Undefined;
      lists = items ∷ lists;
      count = omega arith;
      held = tt;
      all_held = (held, all);
      plain = refl;
      made = made ∙ ap (λ v. whole v lists) is;
      is = sym same.1;
    }

open_text : (text : List ℕ) (depth deeper : ℕ) (parts : List Part) (rest : List ℕ) (reading : Reading text ValueNext depth parts rest) → deeper ≡ depth + 1 → (v : Value) (lists : List Values) → length lists ≡ deeper →
    text_of (with_list reading.whole lists) ≡ (reading.taken ++ 91 ∷ []) ++ coming_text ItemsNext v lists
open_text text depth deeper parts rest reading more v [] e = absurd (omega arith)
open_text text depth deeper parts rest reading more v (items ∷ lists) e =
    reading.text_is (ListOf items) lists (omega arith) ∙ ap (λ b. reading.taken ++ b) (list_text items (behind_text lists))
    ∙ sym (append_assoc reading.taken (91 ∷ []) (texts_of items ++ 93 ∷ behind_text lists))

open_parts : (text : List ℕ) (depth deeper : ℕ) (parts : List Part) (rest : List ℕ) (reading : Reading text ValueNext depth parts rest) → deeper ≡ depth + 1 → (v : Value) (lists : List Values) → length lists ≡ deeper →
    parts_of (with_list reading.whole lists) ≡ (parts ++ Opens ∷ []) ++ behind_parts lists
open_parts text depth deeper parts rest reading more v [] e = absurd (omega arith)
open_parts text depth deeper parts rest reading more v (items ∷ lists) e =
    reading.parts_are (ListOf items) lists (omega arith) ∙ ap (λ b. parts ++ b) (list_parts items (behind_parts lists))
    ∙ sym (append_assoc parts (Opens ∷ []) (parts_of_all items ++ Closes ∷ behind_parts lists))

open_held : (text : List ℕ) (depth deeper : ℕ) (parts : List Part) (rest : List ℕ) (reading : Reading text ValueNext depth parts rest) → deeper ≡ depth + 1 → (v : Value) (lists : List Values) → length lists ≡ deeper →
    AllHeld lists → IsHeld (with_list reading.whole lists)
open_held text depth deeper parts rest reading more v [] e all = tt
open_held text depth deeper parts rest reading more v (items ∷ lists) e all = reading.held (ListOf items) lists (omega arith) all.0 all.1

pub open_step : (text : List ℕ) (depth deeper : ℕ) (parts : List Part) (rest left : List ℕ) → deeper ≡ depth + 1 → Reading text ValueNext depth parts rest → IsPrefixOf rest Opens left → Reading text ItemsNext deeper (parts ++ Opens ∷ []) left
open_step text depth deeper parts rest left more reading prefix = record {
  taken = reading.taken ++ 91 ∷ [];
  cut = reading.cut ∙ ap (λ b. reading.taken ++ b) prefix.begins.is ∙ sym (append_assoc reading.taken (91 ∷ []) left);
  whole = λ v lists. with_list reading.whole lists;
  text_is = open_text text depth deeper parts rest reading more;
  parts_are = open_parts text depth deeper parts rest reading more;
  held = λ v lists e h all. open_held text depth deeper parts rest reading more v lists e all;
  only = λ w h e.
      let k = reading.only w h e in
      open_only reading.whole depth deeper rest left w k.value k.lists more prefix k.count k.all_held k.made (begins_by rest k.value (behind_text k.lists) k.held (ends k.lists) k.is);
  begun = omega arith;
}

-- a list ends
end_text : (place : Place) (depth : ℕ) (lists : List Values) → CanEnd place depth → coming_text place Undefined (NoValue ∷ lists) ≡ 93 ∷ behind_text lists
end_text ValueNext depth lists can = absurd can
end_text ItemsNext depth lists can = refl
end_text After depth lists can = refl

end_parts : (place : Place) (depth : ℕ) (lists : List Values) → CanEnd place depth → coming_parts place Undefined (NoValue ∷ lists) ≡ Closes ∷ behind_parts lists
end_parts ValueNext depth lists can = absurd can
end_parts ItemsNext depth lists can = refl
end_parts After depth lists can = refl

pub end_depth : (place : Place) (depth : ℕ) → CanEnd place depth → 0 < depth
end_depth ValueNext depth can = absurd can
end_depth ItemsNext depth can = can
end_depth After depth can = can

end_only : (whole : Value → List Values → Value) (place : Place) (depth less : ℕ) (rest left : List ℕ) (w value : Value) (lists : List Values) → depth ≡ less + 1 → CanEnd place depth → rest ≡ 93 ∷ left → length lists ≡ depth → AllHeld lists → IsPlain place value →
    w ≡ whole value lists → rest ≡ coming_text place value lists → Coming (λ v ls. whole Undefined (NoValue ∷ ls)) After less left w
end_only whole place depth less rest left w value [] more can e count all plain made is = absurd (omega arith)
end_only whole ValueNext depth less rest left w value (items ∷ lists) more can e count all plain made is = absurd can
end_only whole ItemsNext depth less rest left w value (NoValue ∷ lists) more can e count all plain made is =
    let both : 93 ∷ left ≡ 93 ∷ behind_text lists = sym e ∙ is in
    record { value = Undefined; lists = lists; count = omega arith; held = tt; all_held = all.1; plain = refl; made = made ∙ ap (λ v. whole v (NoValue ∷ lists)) plain; is = cc }
end_only whole ItemsNext depth less rest left w value (MoreValues first others ∷ lists) more can e count all plain made is =
    let begins = begins_by rest first (texts_after others ++ 93 ∷ behind_text lists) all.0.0 (end_by others (behind_text lists)) (is ∙ items_text first others (behind_text lists)) in
    absurd (not_end rest first (texts_after others ++ 93 ∷ behind_text lists) begins (ap (λ (b : List ℕ). get_or b 0 0) e))
end_only whole After depth less rest left w value (NoValue ∷ lists) more can e count all plain made is =
    let both : 93 ∷ left ≡ 93 ∷ behind_text lists = sym e ∙ is in
    record { value = Undefined; lists = lists; count = omega arith; held = tt; all_held = all.1; plain = refl; made = made ∙ ap (λ v. whole v (NoValue ∷ lists)) plain; is = cc }
end_only whole After depth less rest left w value (MoreValues first others ∷ lists) more can e count all plain made is =
    absurd (comma_not_end left (text_of first ++ (texts_after others ++ 93 ∷ behind_text lists)) (sym e ∙ is ∙ after_text first others (behind_text lists)))

pub end_step : (text : List ℕ) (place : Place) (depth less : ℕ) (parts : List Part) (rest left : List ℕ) → depth ≡ less + 1 → CanEnd place depth → Reading text place depth parts rest → rest ≡ 93 ∷ left → Reading text After less (parts ++ Closes ∷ []) left
end_step text place depth less parts rest left more can reading e = record {
  taken = reading.taken ++ 93 ∷ [];
  cut = reading.cut ∙ ap (λ b. reading.taken ++ b) e ∙ sym (append_assoc reading.taken (93 ∷ []) left);
  whole = λ v lists. reading.whole Undefined (NoValue ∷ lists);
  text_is = λ v lists count.
      reading.text_is Undefined (NoValue ∷ lists) (omega arith) ∙ ap (λ b. reading.taken ++ b) (end_text place depth lists can)
      ∙ sym (append_assoc reading.taken (93 ∷ []) (behind_text lists));
  parts_are = λ v lists count.
      reading.parts_are Undefined (NoValue ∷ lists) (omega arith) ∙ ap (λ b. parts ++ b) (end_parts place depth lists can)
      ∙ sym (append_assoc parts (Closes ∷ []) (behind_parts lists));
  held = λ v lists count h all. reading.held Undefined (NoValue ∷ lists) (omega arith) tt (tt, all);
  only = λ w h is.
      let k = reading.only w h is in
      end_only reading.whole place depth less rest left w k.value k.lists more can e k.count k.all_held k.plain k.made k.is;
  begun = tt;
}

-- a comma is read
comma_coming : (v : Value) (lists : List Values) → 0 < length lists → behind_text (with_first v lists) ≡ 44 ∷ (text_of v ++ behind_text lists)
comma_coming v [] some = absurd (omega arith)
comma_coming v (items ∷ lists) some = after_text v items (behind_text lists)

comma_only : (whole : Value → List Values → Value) (depth : ℕ) (rest left : List ℕ) (w value : Value) (lists : List Values) → 0 < depth → rest ≡ 44 ∷ left → length lists ≡ depth → AllHeld lists → value ≡ Undefined → w ≡ whole value lists →
    rest ≡ behind_text lists → Coming (λ v ls. whole Undefined (with_first v ls)) ValueNext depth left w
comma_only whole depth rest left w value [] some e count all plain made is = absurd (no_list depth some count)
comma_only whole depth rest left w value (NoValue ∷ lists) some e count all plain made is = absurd (comma_not_end (behind_text lists) left (sym is ∙ e))
comma_only whole depth rest left w value (MoreValues first more ∷ lists) some e count all plain made is =
    let both : 44 ∷ left ≡ 44 ∷ (text_of first ++ (texts_after more ++ 93 ∷ behind_text lists)) = sym e ∙ is ∙ after_text first more (behind_text lists) in
    record {
      value = first;
      lists = more ∷ lists;
      count = count;
      held = all.0.0;
      all_held = (all.0.1, all.1);
      plain = tt;
      made = made ∙ ap (λ v. whole v (MoreValues first more ∷ lists)) plain;
      is = cc;
    }

pub comma_step : (text : List ℕ) (depth : ℕ) (parts : List Part) (rest left : List ℕ) → 0 < depth → Reading text After depth parts rest → rest ≡ 44 ∷ left → Reading text ValueNext depth parts left
comma_step text depth parts rest left some reading e = record {
  taken = reading.taken ++ 44 ∷ [];
  cut = reading.cut ∙ ap (λ b. reading.taken ++ b) e ∙ sym (append_assoc reading.taken (44 ∷ []) left);
  whole = λ v lists. reading.whole Undefined (with_first v lists);
  text_is = λ v lists count.
      let any : 0 < length lists = omega arith in
      reading.text_is Undefined (with_first v lists) (length-with_first v lists ∙ count) ∙ ap (λ b. reading.taken ++ b) (comma_coming v lists any)
      ∙ sym (append_assoc reading.taken (44 ∷ []) (text_of v ++ behind_text lists));
  parts_are = λ v lists count.
      let any : 0 < length lists = omega arith in
      reading.parts_are Undefined (with_first v lists) (length-with_first v lists ∙ count) ∙ ap (λ b. parts ++ b) (first_parts v lists any);
  held = λ v lists count h all. reading.held Undefined (with_first v lists) (length-with_first v lists ∙ count) tt (held_first v lists h all);
  only = λ w h is.
      let k = reading.only w h is in
      comma_only reading.whole depth rest left w k.value k.lists some e k.count k.all_held k.plain k.made k.is;
  begun = tt;
}

-- nothing can come
never_prefix : (rest : List ℕ) (v : Value) (after : List ℕ) → ((p : Part) (r : List ℕ) → ¬ (BeginsWith rest p r)) → Begins rest v after → ⊥
never_prefix rest v after none (AtomBegins begins one) = none (Atom v) after begins
never_prefix rest v after none (ListBegins items is held begins) = none Opens (texts_of items ++ 93 ∷ after) begins

pub no_value : (text : List ℕ) (depth : ℕ) (parts : List Part) (rest : List ℕ) (why : ReadRefusal) → Reading text ValueNext depth parts rest → RefusesPrefix rest why → RefusesText text why
no_value text depth parts rest (NotValue left) reading none = λ w h e.
    let k = reading.only w h e in
    never_prefix rest k.value (behind_text k.lists) none (begins_by rest k.value (behind_text k.lists) k.held (ends k.lists) k.is)
no_value text depth parts rest NoMemory reading none = tt

after_by : (depth : ℕ) (rest : List ℕ) (lists : List Values) → (depth ≡ 0 → rest ≢ []) → (0 < depth → NeverBegins rest (93 ∷ [])) → (0 < depth → NeverBegins rest (44 ∷ [])) → length lists ≡ depth → rest ≡ behind_text lists → ⊥
after_by depth rest [] whole no_end no_comma count is = whole (sym count) is
after_by depth rest (NoValue ∷ lists) whole no_end no_comma count is = no_end (omega arith) (behind_text lists) is
after_by depth rest (MoreValues first more ∷ lists) whole no_end no_comma count is =
    no_comma (omega arith) (text_of first ++ (texts_after more ++ 93 ∷ behind_text lists)) (is ∙ after_text first more (behind_text lists))

pub no_after : (text : List ℕ) (depth : ℕ) (parts : List Part) (rest : List ℕ) → Reading text After depth parts rest → (depth ≡ 0 → rest ≢ []) → (0 < depth → NeverBegins rest (93 ∷ [])) → (0 < depth → NeverBegins rest (44 ∷ [])) → IsNoText text
no_after text depth parts rest reading whole no_end no_comma w h e =
    let k = reading.only w h e in after_by depth rest k.lists whole no_end no_comma k.count k.is

-- the whole text is read
pub done : (text : List ℕ) (depth : ℕ) (parts : List Part) (rest : List ℕ) → Reading text After depth parts rest → depth ≡ 0 → rest ≡ [] → IsRead text parts
done text depth parts rest reading none all = record {
  value = reading.whole Undefined [];
  held = reading.held Undefined [] (sym none) tt tt;
  is = reading.text_is Undefined [] (sym none) ∙ sym (reading.cut ∙ ap (λ b. reading.taken ++ b) all);
  only = λ v h e.
      let k = reading.only v h e in
      k.made ∙ (λ i. reading.whole (k.plain i) (nil_from_length k.lists (k.count ∙ none) i));
  told = sym (reading.parts_are Undefined [] (sym none) ∙ append-nil parts);
}

-- the part that a value begins with is read, where it is no list's
pub part_step : (text : List ℕ) (depth : ℕ) (parts : List Part) (rest left : List ℕ) (part : PartCode) → part ≢ OpenCode → Reading text ValueNext depth parts rest → IsPrefixOf rest (part_of part) left → Reading text After depth (parts ++ part_of part ∷ []) left
part_step text depth parts rest left UndefinedCode other reading prefix = atom_step text depth parts rest left Undefined reading prefix
part_step text depth parts rest left (NumberCode n) other reading prefix = atom_step text depth parts rest left (Number n) reading prefix
part_step text depth parts rest left (TextCode t) other reading prefix = atom_step text depth parts rest left (Text (string_bytes t)) reading prefix
part_step text depth parts rest left OpenCode other reading prefix = absurd (other refl)
part_step text depth parts rest left CloseCode other reading prefix = absurd prefix.begins.prefix

pub at_place : (text : List ℕ) (place other : Place) (depth : ℕ) (parts more : List Part) (rest : List ℕ) → place ≡ other → more ≡ parts → Reading text place depth parts rest → Reading text other depth more rest
at_place text place other depth parts more rest e f reading = subst (λ q. Reading text q depth more rest) e (subst (λ ps. Reading text place depth ps rest) (sym f) reading)

pub pushed : (items more : List PartCode) (part : PartCode) → more ≡ items ++ part ∷ [] → map part_of more ≡ map part_of items ++ part_of part ∷ []
pushed items more part e = ap (map part_of) e ∙ map-append part_of items (part ∷ [])

pub ends_at : (place : Place) (depth : ℕ) → place ≡ After → 0 < depth → CanEnd place depth
ends_at ValueNext depth e some = let bad : ValueNext ≡ After = e in cc
ends_at ItemsNext depth e some = some
ends_at After depth e some = some

pub not_empty : (rest : List ℕ) → false ≡ (length rest == 0) → rest ≢ []
not_empty rest e none = let bad : false ≡ true = e ∙ ap (λ (b : List ℕ). length b == 0) none in cc

pub is_empty : (rest : List ℕ) → true ≡ (length rest == 0) → rest ≡ []
is_empty [] e = refl
is_empty (b ∷ bs) e = absurd (omega (arith, eqb-true (length (b ∷ bs)) 0 (sym e)))
