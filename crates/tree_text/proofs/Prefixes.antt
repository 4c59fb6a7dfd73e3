-- The part that a value begins with is told by the first byte of its text.
use Rattle.std.proofs.Common.{◌≡◌, ◌≢◌, ℕ, ◌<◌, List, [], ◌∷◌, ◌++◌, length, get_or, codes, refl, sym, ap, ◌∙◌, arith, append_assoc, length-append, subst, IsUtf8, chars}
use Rattle.std.specs.List.{flat_map}
use Rattle.std.specs.Int.{IsInRange}
use Rattle.std.proofs.lemmas.Str.{encodes-chars}
use Rattle.grammar_model.specs.Values.{Undefined, Number, Text, ListOf}
use Rattle.grammar_model.specs.Text.{escaped}
use Rattle.tree_text.specs.Parts.{Part, Opens, Closes, Atom}
use Rattle.tree_text.specs.Prefixes.{NeverBegins, quoted, IsQuoted, IsNumber, HasNoNumber, BeginsWith, IsPrefixOf, RefusesQuoted, RefusesPrefix}
use Rattle.tree_text.specs.declared.part.ReadRefusal.{ReadRefusal}
use Rattle.tree_text.specs.declared.part.ReadRefusal.TheVariants.{NotValue, NoMemory}
use Rattle.tree_text.proofs.Numbers.{first_digit, same_number, number_shorter}
use lib.Utf8.{encodes}

-- a text that begins with a part, by the kind of the part
pub data Kind (text : List ℕ) (p : Part) (r : List ℕ) : Type 0 where
  IsOpen : p ≡ Opens → text ≡ 91 ∷ r → get_or text 0 0 ≡ 91 → Kind text p r
  IsUndefined : p ≡ Atom Undefined → text ≡ codes "undef" ++ r → get_or text 0 0 ≡ 117 → Kind text p r
  IsTextOf : (bytes : List ℕ) → p ≡ Atom (Text bytes) → IsUtf8 bytes → text ≡ 34 ∷ quoted (chars bytes) r → get_or text 0 0 ≡ 34 → Kind text p r
  IsNumberOf : (n : ℕ) → p ≡ Atom (Number n) → IsNumber text n r → IsInRange 48 57 (get_or text 0 0) → Kind text p r

pub kind : (text : List ℕ) (p : Part) (r : List ℕ) → BeginsWith text p r → Kind text p r
kind text Opens r is = IsOpen refl is.is (ap (λ b. get_or b 0 0) is.is)
kind text Closes r is = absurd is.prefix
kind text (Atom Undefined) r is = IsUndefined refl is.is (ap (λ b. get_or b 0 0) is.is)
kind text (Atom (Text bytes)) r is =
    let begins : text ≡ 34 ∷ quoted (chars bytes) r = is.is ∙ ap (λ b. 34 ∷ b) (append_assoc (flat_map escaped (chars bytes)) (34 ∷ []) r) in
    IsTextOf bytes refl is.prefix.0 begins (ap (λ b. get_or b 0 0) begins)
kind text (Atom (Number n)) r is =
    let first = first_digit n r is.prefix.0 in
    let begins : get_or text 0 0 ≡ first.digit = ap (λ b. get_or b 0 0) (is.is ∙ first.is) in
    IsNumberOf n refl (record { is = is.is; small = is.prefix.0; ends = is.ends }) (subst (IsInRange 48 57) (sym begins) first.digits)
kind text (Atom (ListOf items)) r is = absurd is.prefix.1

pub record Same (p q : Part) (r s : List ℕ) : Type 0 where
  pub part : p ≡ q
  pub rest : r ≡ s

open_same : (text rest : List ℕ) → text ≡ 91 ∷ rest → get_or text 0 0 ≡ 91 → (p : Part) (r : List ℕ) → Kind text p r → Same p Opens r rest
open_same text rest e first p r (IsOpen part is first') = let both : 91 ∷ r ≡ 91 ∷ rest = sym is ∙ e in record { part = part; rest = cc }
open_same text rest e first p r (IsUndefined part is first') = absurd (omega arith)
open_same text rest e first p r (IsTextOf bytes part utf8 is first') = absurd (omega arith)
open_same text rest e first p r (IsNumberOf n part is first') = absurd (omega arith)

undefined_same : (text rest : List ℕ) → text ≡ codes "undef" ++ rest → get_or text 0 0 ≡ 117 → (p : Part) (r : List ℕ) → Kind text p r → Same p (Atom Undefined) r rest
undefined_same text rest e first p r (IsOpen part is first') = absurd (omega arith)
undefined_same text rest e first p r (IsUndefined part is first') = let both : codes "undef" ++ r ≡ codes "undef" ++ rest = sym is ∙ e in record { part = part; rest = cc }
undefined_same text rest e first p r (IsTextOf bytes part utf8 is first') = absurd (omega arith)
undefined_same text rest e first p r (IsNumberOf n part is first') = absurd (omega arith)

text_same : (text inside rest bytes : List ℕ) → IsUtf8 bytes → text ≡ 34 ∷ inside → get_or text 0 0 ≡ 34 → IsQuoted inside (chars bytes) rest → (p : Part) (r : List ℕ) → Kind text p r → Same p (Atom (Text bytes)) r rest
text_same text inside rest bytes known e first it p r (IsOpen part is first') = absurd (omega arith)
text_same text inside rest bytes known e first it p r (IsUndefined part is first') = absurd (omega arith)
text_same text inside rest bytes known e first it p r (IsTextOf others part utf8 is first') =
    let both : 34 ∷ inside ≡ 34 ∷ quoted (chars others) r = sym e ∙ is in
    let inner : inside ≡ quoted (chars others) r = cc in
    let same = it.only (chars others) r inner in
    let text_is : others ≡ bytes = sym (encodes-chars others utf8) ∙ ap encodes same.0 ∙ encodes-chars bytes known in
    record { part = part ∙ ap (λ b. Atom (Text b)) text_is; rest = same.1 }
text_same text inside rest bytes known e first it p r (IsNumberOf n part is first') = absurd (omega arith)

number_same : (text rest : List ℕ) (n : ℕ) → IsNumber text n rest → IsInRange 48 57 (get_or text 0 0) → (p : Part) (r : List ℕ) → Kind text p r → Same p (Atom (Number n)) r rest
number_same text rest n it first p r (IsOpen part is first') = absurd (omega arith)
number_same text rest n it first p r (IsUndefined part is first') = absurd (omega arith)
number_same text rest n it first p r (IsTextOf bytes part utf8 is first') = absurd (omega arith)
number_same text rest n it first p r (IsNumberOf m part is first') =
    let same = same_number text m n r rest is it in
    record { part = part ∙ ap (λ k. Atom (Number k)) same.0; rest = same.1 }

pub open_prefix : (text rest : List ℕ) → text ≡ 91 ∷ rest → IsPrefixOf text Opens rest
open_prefix text rest e = record {
  begins = record { is = e; prefix = tt; ends = tt };
  only = λ p r is. let same = open_same text rest e (ap (λ b. get_or b 0 0) e) p r (kind text p r is) in (same.part, same.rest);
}

pub undefined_prefix : (text rest : List ℕ) → text ≡ codes "undef" ++ rest → IsPrefixOf text (Atom Undefined) rest
undefined_prefix text rest e = record {
  begins = record { is = e; prefix = (tt, tt); ends = tt };
  only = λ p r is. let same = undefined_same text rest e (ap (λ b. get_or b 0 0) e) p r (kind text p r is) in (same.part, same.rest);
}

pub text_prefix : (text inside rest bytes : List ℕ) → IsUtf8 bytes → text ≡ 34 ∷ inside → IsQuoted inside (chars bytes) rest → IsPrefixOf text (Atom (Text bytes)) rest
text_prefix text inside rest bytes known e it = record {
  begins = record {
    is = e ∙ ap (λ b. 34 ∷ b) (it.is ∙ sym (append_assoc (flat_map escaped (chars bytes)) (34 ∷ []) rest));
    prefix = (known, tt);
    ends = tt;
  };
  only = λ p r is. let same = text_same text inside rest bytes known e (ap (λ b. get_or b 0 0) e) it p r (kind text p r is) in (same.part, same.rest);
}

pub number_prefix : (text rest : List ℕ) (n : ℕ) → IsNumber text n rest → IsPrefixOf text (Atom (Number n)) rest
number_prefix text rest n it =
    let digit = first_digit n rest it.small in
    let first : get_or text 0 0 ≡ digit.digit = ap (λ b. get_or b 0 0) (it.is ∙ digit.is) in
    let in_range : IsInRange 48 57 (get_or text 0 0) = subst (IsInRange 48 57) (sym first) digit.digits in
    record {
      begins = record { is = it.is; prefix = (it.small, tt); ends = it.ends };
      only = λ p r is. let same = number_same text rest n it in_range p r (kind text p r is) in (same.part, same.rest);
    }

none_by : (text : List ℕ) → NeverBegins text (91 ∷ []) → NeverBegins text (codes "undef") → NeverBegins text (34 ∷ []) → HasNoNumber text → (p : Part) (r : List ℕ) → Kind text p r → ⊥
none_by text opens undef quote number p r (IsOpen part is first) = opens r is
none_by text opens undef quote number p r (IsUndefined part is first) = undef r is
none_by text opens undef quote number p r (IsTextOf bytes part utf8 is first) = quote (quoted (chars bytes) r) is
none_by text opens undef quote number p r (IsNumberOf n part is first) = number n r is

pub no_prefix : (text : List ℕ) → NeverBegins text (91 ∷ []) → NeverBegins text (codes "undef") → NeverBegins text (34 ∷ []) → HasNoNumber text → (p : Part) (r : List ℕ) → ¬ (BeginsWith text p r)
no_prefix text opens undef quote number p r is = none_by text opens undef quote number p r (kind text p r is)

no_text_by : (text inside : List ℕ) → text ≡ 34 ∷ inside → get_or text 0 0 ≡ 34 → ((cs r : List ℕ) → inside ≢ quoted cs r) → (p : Part) (r : List ℕ) → Kind text p r → ⊥
no_text_by text inside e first never p r (IsOpen part is first') = omega arith
no_text_by text inside e first never p r (IsUndefined part is first') = omega arith
no_text_by text inside e first never p r (IsTextOf bytes part utf8 is first') =
    let both : 34 ∷ inside ≡ 34 ∷ quoted (chars bytes) r = sym e ∙ is in
    let inner : inside ≡ quoted (chars bytes) r = cc in never (chars bytes) r inner
no_text_by text inside e first never p r (IsNumberOf n part is first') = omega arith

pub no_text : (text inside : List ℕ) → text ≡ 34 ∷ inside → ((cs r : List ℕ) → inside ≢ quoted cs r) → (p : Part) (r : List ℕ) → ¬ (BeginsWith text p r)
no_text text inside e never p r is = no_text_by text inside e (ap (λ b. get_or b 0 0) e) never p r (kind text p r is)

pub refused_text : (text inside : List ℕ) (why : ReadRefusal) → text ≡ 34 ∷ inside → RefusesQuoted inside why → RefusesPrefix text why
refused_text text inside (NotValue left) e never = no_text text inside e never
refused_text text inside NoMemory e never = tt

shorter_by : (text : List ℕ) (p : Part) (r : List ℕ) → Kind text p r → IsPrefixOf text p r → length r < length text
shorter_by text p r (IsOpen part is first) prefix = omega (arith, ap length is)
shorter_by text p r (IsUndefined part is first) prefix = omega (arith, ap length is)
shorter_by text p r (IsTextOf bytes part utf8 is first) prefix = omega (arith, ap length is, length-append (flat_map escaped (chars bytes)) (34 ∷ r))
shorter_by text p r (IsNumberOf n part is first) prefix = number_shorter text r n is

pub prefix_shorter : (text : List ℕ) (p : Part) (r : List ℕ) → IsPrefixOf text p r → length r < length text
prefix_shorter text p r prefix = shorter_by text p r (kind text p r prefix.begins) prefix
