-- What is written and what is still to be written, while the text of a value is appended.
use Rattle.std.proofs.Common.{◌≡◌, ℕ, suc, ◌+◌, ◌-◌, ◌<◌, ◌≤◌, Bool, true, false, List, [], ◌∷◌, ◌++◌, length, map, take, refl, sym, ap, ◌∙◌, arith, length-append, append_assoc, append-nil, subst}
use Rattle.std.proofs.Math.Seq.{take-append_seam, drop-append_seam}
use Rattle.std.proofs.lemmas.Str.{chars_past_char, chars-nil, IsUtf8-past_char}
use Rattle.std.specs.Str.{chars, IsUtf8}
use Rattle.std.specs.Char.{encode_utf8}
use Rattle.std.specs.List.{flat_map, slice_range}
use Rattle.value_text.specs.declared.text.Open.{Open}
use Rattle.value_text.specs.Nodes.{value_at}
use Rattle.value_text.specs.Parts.{comma, open_text, rest_text, AreOpen, items_text, IsExtended}
use Rattle.value_text.specs.Pool.{AreIds}
use Rattle.grammar_model.specs.Values.{Value, values_of, list_of}
use Rattle.grammar_model.specs.Text.{escaped, text_of, texts_after}

pub extended_same : (xs : List ℕ) → IsExtended xs xs
extended_same xs = record { more = []; is = sym (append-nil xs) }

pub extended_by : (xs more ys : List ℕ) → ys ≡ xs ++ more → IsExtended xs ys
extended_by xs more ys e = record { more = more; is = e }

pub extended_through : (xs ys zs : List ℕ) → IsExtended xs ys → IsExtended ys zs → IsExtended xs zs
extended_through xs ys zs p q = record { more = p.more ++ q.more; is = q.is ∙ ap (λ b. b ++ q.more) p.is ∙ append_assoc xs p.more q.more }

-- what was there before is there again when the rest is cut off
pub take-extended : (xs ys : List ℕ) (n : ℕ) → n ≡ length xs → IsExtended xs ys → take n ys ≡ xs
take-extended xs ys n e p = (λ i. take (e i) (p.is i)) ∙ take-append_seam xs p.more

-- a text's characters as they stand in quotes
abbrev pub escaped_rest : List ℕ → List ℕ
escaped_rest bytes = flat_map escaped (chars bytes)

escaped_rest_char : (bytes rest : List ℕ) (c : ℕ) → IsUtf8 bytes → bytes ≡ encode_utf8 c ++ rest → escaped_rest bytes ≡ escaped c ++ escaped_rest rest
escaped_rest_char bytes rest c utf8 e = ap (λ cs. flat_map escaped cs) (chars_past_char bytes rest c utf8 e)

-- of a text in its quotes, the bytes from one place to another are still to be appended, and then the rest
pub record IsQuoting (text : List ℕ) (from at : ℕ) (rest out whole : List ℕ) : Type 0 where
  pub prefix : List ℕ
  pub pending : List ℕ
  pub text_is : text ≡ prefix ++ (pending ++ rest)
  pub from_is : from ≡ length prefix
  pub at_is : at ≡ from + length pending
  pub utf8 : IsUtf8 rest
  pub written : out ++ (pending ++ escaped_rest rest) ≡ whole

pub quoting_begun : (text rest out : List ℕ) (at : ℕ) → IsUtf8 text → rest ≡ text → at ≡ 0 → IsQuoting text 0 at rest out (out ++ escaped_rest text)
quoting_begun text rest out at utf8 same zero = record {
  prefix = [];
  pending = [];
  text_is = sym same;
  from_is = refl;
  at_is = zero;
  utf8 = subst IsUtf8 (sym same) utf8;
  written = ap (λ r. out ++ escaped_rest r) same;
}

quoting_bounds : (text : List ℕ) (from at : ℕ) (rest out whole : List ℕ) → IsQuoting text from at rest out whole → (from ≤ at) × (at + length rest ≡ length text)
quoting_bounds text from at rest out whole h =
    let e = ap length h.text_is in
    (omega (arith, h.at_is), omega (arith, e, h.from_is, h.at_is, length-append h.prefix (h.pending ++ rest), length-append h.pending rest))

-- what is still to be appended is that part of the text
middle_part : (prefix pending rest : List ℕ) → slice_range (prefix ++ (pending ++ rest)) (length prefix) (length prefix + length pending) ≡ pending
middle_part prefix pending rest =
    let n : length prefix + length pending - length prefix ≡ length pending = omega arith in
    (λ i. take (n i) (drop-append_seam prefix (pending ++ rest) i)) ∙ take-append_seam pending rest

quoting_part : (text : List ℕ) (from at : ℕ) (rest out whole : List ℕ) (h : IsQuoting text from at rest out whole) → slice_range text from at ≡ h.pending
quoting_part text from at rest out whole h =
    (λ i. slice_range (h.text_is i) (h.from_is i) ((h.at_is ∙ ap (λ n. n + length h.pending) h.from_is) i)) ∙ middle_part h.prefix h.pending rest

-- a character stands as it is
pub quoting_plain : (text : List ℕ) (from at next : ℕ) (rest rest' out whole : List ℕ) (c : ℕ) → IsQuoting text from at rest out whole → rest ≡ encode_utf8 c ++ rest' → next ≡ at + length (encode_utf8 c) → escaped c ≡ encode_utf8 c →
    IsQuoting text from next rest' out whole
quoting_plain text from at next rest rest' out whole c h e n same = record {
  prefix = h.prefix;
  pending = h.pending ++ encode_utf8 c;
  text_is = h.text_is ∙ ap (λ b. h.prefix ++ (h.pending ++ b)) e ∙ ap (λ b. h.prefix ++ b) (sym (append_assoc h.pending (encode_utf8 c) rest'));
  from_is = h.from_is;
  at_is = omega (arith, n, h.at_is, length-append h.pending (encode_utf8 c));
  utf8 = IsUtf8-past_char rest rest' c h.utf8 e;
  written =
      ap (λ b. out ++ b) (append_assoc h.pending (encode_utf8 c) (escaped_rest rest'))
      ∙ ap (λ b. out ++ (h.pending ++ (b ++ escaped_rest rest'))) (sym same)
      ∙ ap (λ b. out ++ (h.pending ++ b)) (sym (escaped_rest_char rest rest' c h.utf8 e))
      ∙ h.written;
}

-- a character is escaped
pub quoting_escaped : (text : List ℕ) (from at past next : ℕ) (rest rest' out out' part whole escape : List ℕ) (c : ℕ) → IsQuoting text from at rest out whole → rest ≡ encode_utf8 c ++ rest' →
    past ≡ at + length (encode_utf8 c) → next ≡ at + length (encode_utf8 c) → escaped c ≡ escape → part ≡ slice_range text from at → out' ≡ out ++ (part ++ escape) →
    IsQuoting text past next rest' out' whole
quoting_escaped text from at past next rest rest' out out' part whole escape c h e p n by is more =
    let prefix : length (h.prefix ++ (h.pending ++ encode_utf8 c)) ≡ length h.prefix + (length h.pending + length (encode_utf8 c)) =
    omega (arith, length-append h.prefix (h.pending ++ encode_utf8 c), length-append h.pending (encode_utf8 c)) in
    let pending : part ≡ h.pending = is ∙ quoting_part text from at rest out whole h in
    record {
      prefix = h.prefix ++ (h.pending ++ encode_utf8 c);
      pending = [];
      text_is =
          h.text_is ∙ ap (λ b. h.prefix ++ (h.pending ++ b)) e
          ∙ ap (λ b. h.prefix ++ b) (sym (append_assoc h.pending (encode_utf8 c) rest'))
          ∙ sym (append_assoc h.prefix (h.pending ++ encode_utf8 c) rest');
      from_is = omega (arith, p, h.at_is, h.from_is, prefix);
      at_is = omega (arith, p, n);
      utf8 = IsUtf8-past_char rest rest' c h.utf8 e;
      written =
          ap (λ b. b ++ escaped_rest rest') (more ∙ ap (λ b. out ++ (b ++ escape)) pending)
          ∙ append_assoc out (h.pending ++ escape) (escaped_rest rest')
          ∙ ap (λ b. out ++ b) (append_assoc h.pending escape (escaped_rest rest'))
          ∙ ap (λ b. out ++ (h.pending ++ (b ++ escaped_rest rest'))) (sym by)
          ∙ ap (λ b. out ++ (h.pending ++ b)) (sym (escaped_rest_char rest rest' c h.utf8 e))
          ∙ h.written;
    }

-- the end of the text
pub quoting_ended : (text : List ℕ) (from at : ℕ) (rest out out' part whole : List ℕ) → IsQuoting text from at rest out whole → length rest ≡ 0 → part ≡ slice_range text from (length text) → out' ≡ out ++ part → out' ≡ whole
quoting_ended text from at [] out out' part whole h none is more =
    let end : length text ≡ at = omega (arith, (quoting_bounds text from at [] out whole h).1) in
    let pending : part ≡ h.pending = is ∙ ap (slice_range text from) end ∙ quoting_part text from at [] out whole h in
    more ∙ ap (λ b. out ++ b) pending ∙ ap (λ b. out ++ b) (sym (append-nil h.pending)) ∙ ap (λ cs. out ++ (h.pending ++ flat_map escaped cs)) (sym chars-nil) ∙ h.written
quoting_ended text from at (b ∷ rest) out out' part whole h none is more = absurd (omega arith)

-- a text in its quotes
pub quoted_whole : (out first inside last : List ℕ) (text : List ℕ) → first ≡ out ++ 34 ∷ [] → inside ≡ first ++ escaped_rest text → last ≡ inside ++ 34 ∷ [] → last ≡ out ++ 34 ∷ (escaped_rest text ++ 34 ∷ [])
quoted_whole out first inside last text a b c =
    c ∙ ap (λ l. l ++ 34 ∷ []) (b ∙ ap (λ l. l ++ escaped_rest text) a ∙ append_assoc out (34 ∷ []) (escaped_rest text)) ∙ append_assoc out (34 ∷ escaped_rest text) (34 ∷ [])

-- the list that was opened last is written first
pub rest_text-push : (values : List Value) (ls : List Open) (l : Open) → rest_text values (ls ++ l ∷ []) ≡ open_text values l ++ rest_text values ls
rest_text-push values [] l = sym (append-nil (open_text values l))
rest_text-push values (m ∷ ls) l =
    ap (λ t. t ++ open_text values m) (rest_text-push values ls l) ∙ append_assoc (open_text values l) (rest_text values ls) (open_text values m)

pub are_open-push : (values : List Value) (ls : List Open) (l : Open) → AreOpen values ls → AreIds values l.rest.now → AreOpen values (ls ++ l ∷ [])
are_open-push values [] l are ids = (ids, tt)
are_open-push values (m ∷ ls) l are ids = (are.0, are_open-push values ls l are.1 ids)

pub are_open_prefix : (values : List Value) (ls : List Open) (l : Open) → AreOpen values (ls ++ l ∷ []) → AreOpen values ls
are_open_prefix values [] l are = tt
are_open_prefix values (m ∷ ls) l are = (are.0, are_open_prefix values ls l are.1)

pub are_open_last : (values : List Value) (ls : List Open) (l : Open) → AreOpen values (ls ++ l ∷ []) → AreIds values l.rest.now
are_open_last values [] l are = are.0
are_open_last values (m ∷ ls) l are = are_open_last values ls l are.1

-- a list was opened
pub start_list : (values : List Value) (out out' : List ℕ) (ls ls' : List Open) (l : Open) (v : Value) → out' ≡ out ++ 91 ∷ [] → ls' ≡ ls ++ l ∷ [] → l.follows ≡ false →
    list_of (map (value_at values) l.rest.now) ≡ v → out' ++ rest_text values ls' ≡ out ++ (text_of v ++ rest_text values ls)
start_list values out out' ls ls' l v o p f e =
    (λ i. o i ++ rest_text values (p i)) ∙ append_assoc out (91 ∷ []) (rest_text values (ls ++ l ∷ []))
    ∙ ap (λ t. out ++ 91 ∷ t) (rest_text-push values ls l)
    ∙ (λ i. out ++ 91 ∷ (items_text (f i) (values_of (map (value_at values) l.rest.now)) ++ rest_text values ls))
    ∙ ap (λ w. out ++ (text_of w ++ rest_text values ls)) e

-- a list was closed
closed_text : (values : List Value) (follows : Bool) (ids : List ℕ) → length ids ≡ 0 → items_text follows (values_of (map (value_at values) ids)) ≡ 93 ∷ []
closed_text values true [] e = refl
closed_text values false [] e = refl
closed_text values follows (id ∷ ids) e = absurd (omega arith)

pub close_list : (values : List Value) (out out' whole : List ℕ) (ls ls' : List Open) (l : Open) → ls ≡ ls' ++ l ∷ [] → length l.rest.now ≡ 0 → out' ≡ out ++ 93 ∷ [] →
    out ++ rest_text values ls ≡ whole → out' ++ rest_text values ls' ≡ whole
close_list values out out' whole ls ls' l p e o w =
    ap (λ b. b ++ rest_text values ls') o ∙ append_assoc out (93 ∷ []) (rest_text values ls')
    ∙ sym ((λ i. out ++ rest_text values (p i)) ∙ ap (λ t. out ++ t) (rest_text-push values ls' l) ∙ ap (λ t. out ++ (t ++ rest_text values ls')) (closed_text values l.follows l.rest.now e))
    ∙ w

-- the next item of a list was begun
next_text : (values : List Value) (follows : Bool) (first : ℕ) (rest : List ℕ) →
    items_text follows (values_of (map (value_at values) (first ∷ rest))) ≡ comma follows ++ (text_of (value_at values first) ++ items_text true (values_of (map (value_at values) rest)))
next_text values true first rest =
    ap (λ t. 44 ∷ t) (append_assoc (text_of (value_at values first)) (texts_after (values_of (map (value_at values) rest))) (93 ∷ []))
next_text values false first rest = append_assoc (text_of (value_at values first)) (texts_after (values_of (map (value_at values) rest))) (93 ∷ [])

pub next_item : (values : List Value) (out out1 out2 whole : List ℕ) (ls ls0 ls1 ls2 : List Open) (l more : Open) (first : ℕ) (rest : List ℕ) →
    ls ≡ ls0 ++ l ∷ [] → l.rest.now ≡ first ∷ rest → out1 ≡ out ++ comma l.follows → ls1 ≡ ls0 ++ more ∷ [] → more.follows ≡ true → more.rest.now ≡ rest →
    out2 ++ rest_text values ls2 ≡ out1 ++ (text_of (value_at values first) ++ rest_text values ls1) → out ++ rest_text values ls ≡ whole → out2 ++ rest_text values ls2 ≡ whole
next_item values out out1 out2 whole ls ls0 ls1 ls2 l more first rest p e o q f r step w =
    let v = text_of (value_at values first) in
    let after = items_text true (values_of (map (value_at values) rest)) in
    let below = rest_text values ls0 in
    let opened : rest_text values ls1 ≡ after ++ below =
    ap (rest_text values) q ∙ rest_text-push values ls0 more ∙ (λ i. items_text (f i) (values_of (map (value_at values) (r i))) ++ below) in
    let left : out2 ++ rest_text values ls2 ≡ out ++ (comma l.follows ++ (v ++ (after ++ below))) =
    step ∙ (λ i. o i ++ (v ++ opened i)) ∙ append_assoc out (comma l.follows) (v ++ (after ++ below)) in
    let right : out ++ rest_text values ls ≡ out ++ ((comma l.follows ++ (v ++ after)) ++ below) =
    (λ i. out ++ rest_text values (p i)) ∙ ap (λ t. out ++ t) (rest_text-push values ls0 l)
    ∙ (λ i. out ++ (items_text l.follows (values_of (map (value_at values) (e i))) ++ below))
    ∙ ap (λ t. out ++ (t ++ below)) (next_text values l.follows first rest) in
    let same : (comma l.follows ++ (v ++ after)) ++ below ≡ comma l.follows ++ (v ++ (after ++ below)) =
    append_assoc (comma l.follows) (v ++ after) below ∙ ap (λ t. comma l.follows ++ t) (append_assoc v after below) in
    left ∙ sym (ap (λ t. out ++ t) same) ∙ sym right ∙ w

-- where more is written, less is left
pub less_left : (a b r s w : List ℕ) → a ++ r ≡ w → b ++ s ≡ w → length a < length b → length s < length r
less_left a b r s w p q l =
    let e : length (a ++ r) ≡ length (b ++ s) = ap length (p ∙ sym q) in
    omega (arith, e, l, length-append a r, length-append b s)

pub first_id : (values : List Value) (ids rest : List ℕ) (first : ℕ) → ids ≡ first ∷ rest → AreIds values ids → first < length values
first_id values ids rest first e are =
    let all : AreIds values (first ∷ rest) = subst (AreIds values) e are in
    all 0 0 (omega arith)

pub rest_ids : (values : List Value) (ids rest : List ℕ) (first : ℕ) → ids ≡ first ∷ rest → AreIds values ids → AreIds values rest
rest_ids values ids rest first e are k d inside =
    let all : AreIds values (first ∷ rest) = subst (AreIds values) e are in
    all (suc k) d (omega arith)

-- the lists that are open, without the last and with the rest of it
pub open_lists_again : (values : List Value) (ls ls0 ls1 : List Open) (l more : Open) (first : ℕ) → ls ≡ ls0 ++ l ∷ [] → l.rest.now ≡ first ∷ more.rest.now → ls1 ≡ ls0 ++ more ∷ [] →
    AreOpen values ls → AreOpen values ls1
open_lists_again values ls ls0 ls1 l more first p e q are =
    let all : AreOpen values (ls0 ++ l ∷ []) = subst (AreOpen values) p are in
    subst (AreOpen values) (sym q) (are_open-push values ls0 more (are_open_prefix values ls0 l all) (rest_ids values l.rest.now more.rest.now first e (are_open_last values ls0 l all)))

pub first_open_id : (values : List Value) (ls ls0 : List Open) (l : Open) (first : ℕ) (rest : List ℕ) → ls ≡ ls0 ++ l ∷ [] → l.rest.now ≡ first ∷ rest → AreOpen values ls → first < length values
first_open_id values ls ls0 l first rest p e are =
    let all : AreOpen values (ls0 ++ l ∷ []) = subst (AreOpen values) p are in
    first_id values l.rest.now rest first e (are_open_last values ls0 l all)

pub lists_below : (values : List Value) (ls ls0 : List Open) (l : Open) → ls ≡ ls0 ++ l ∷ [] → AreOpen values ls → AreOpen values ls0
lists_below values ls ls0 l p are = are_open_prefix values ls0 l (subst (AreOpen values) p are)

pub one_longer : (xs ys : List ℕ) (x : ℕ) → ys ≡ xs ++ x ∷ [] → length xs < length ys
one_longer xs ys x e = omega (arith, ap length e, length-append xs (x ∷ []))

pub longer_through : (xs ys zs : List ℕ) → IsExtended xs ys → length ys < length zs → length xs < length zs
longer_through xs ys zs p l = omega (arith, l, ap length p.is, length-append xs p.more)
