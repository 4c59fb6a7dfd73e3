-- Where characters begin among the bytes of a text.
use Rattle.std.proofs.Common.{◌≡◌, ℕ, zero, suc, ◌+◌, ◌-◌, ◌<◌, ◌≤◌, Bool, true, false, ◌&&◌, List, [], ◌∷◌, ◌++◌, length, take, drop, get_or, refl, sym, ap, ◌∙◌, arith, append_assoc, length-append, subst, encode_utf8_all, IsUtf8, Option, Some, None, MatchOption}
use Rattle.std.proofs.Math.Seq.{take-add, drop-append_seam, take-append_seam}
use Rattle.std.proofs.Math.Utf8.{scalars, scalar}
use Rattle.std.proofs.lemmas.List.{take-append-drop, get_or_default, length-take-le}
use Rattle.std.proofs.lemmas.Str.{chars_past_char, chars-nil, chars-encodes, encodes-append, length-encode, IsCharBoundary-at_seam, scalars-chars, encodes-chars, chars-IsAscii, encodes-IsAscii, IsAscii-take}
use Rattle.std.specs.Str.{chars, IsCharBoundary, IsAscii}
use Rattle.std.specs.Char.{encode_utf8, len_utf8}
use Rattle.std.specs.List.{slice_range}
use Rattle.slif_base.specs.Characters.{starts_from}

pub starts_step : (bytes rest starts starts' whole : List ℕ) (at c : ℕ) → IsUtf8 bytes → bytes ≡ encode_utf8 c ++ rest → starts' ≡ starts ++ at ∷ [] →
    starts ++ starts_from at (chars bytes) ≡ whole → starts' ++ starts_from (at + len_utf8 c) (chars rest) ≡ whole
starts_step bytes rest starts starts' whole at c utf8 e p w =
    ap (λ b. b ++ starts_from (at + len_utf8 c) (chars rest)) p ∙ append_assoc starts (at ∷ []) (starts_from (at + len_utf8 c) (chars rest))
    ∙ ap (λ cs. starts ++ starts_from at cs) (sym (chars_past_char bytes rest c utf8 e)) ∙ w

pub starts_end : (bytes starts starts' whole : List ℕ) (at : ℕ) → length bytes ≡ 0 → starts' ≡ starts ++ at ∷ [] → starts ++ starts_from at (chars bytes) ≡ whole → starts' ≡ whole
starts_end [] starts starts' whole at e p w = p ∙ ap (λ cs. starts ++ starts_from at cs) (sym chars-nil) ∙ w
starts_end (b ∷ bytes) starts starts' whole at e p w = absurd (omega arith)

pub length-starts : (at : ℕ) (cs : List ℕ) → length (starts_from at cs) ≡ suc (length cs)
length-starts at [] = refl
length-starts at (c ∷ cs) = ap suc (length-starts (at + len_utf8 c) cs)

pub get_or-starts : (at : ℕ) (cs : List ℕ) (i : ℕ) → i ≤ length cs → get_or (starts_from at cs) i 0 ≡ at + length (encode_utf8_all (take i cs))
get_or-starts at [] zero b = omega arith
get_or-starts at [] (suc i) b = absurd (omega arith)
get_or-starts at (c ∷ cs) zero b = omega arith
get_or-starts at (c ∷ cs) (suc i) b =
    let rest = get_or-starts (at + len_utf8 c) cs i (omega arith) in
    omega (arith, rest, length-append (encode_utf8 c) (encode_utf8_all (take i cs)), length-encode c)

both_right : (a b : Bool) → (a && b) ≡ true → b ≡ true
both_right true b e = e
both_right false b e = cc

scalars-drop : (n : ℕ) (cs : List ℕ) → scalars cs ≡ true → scalars (drop n cs) ≡ true
scalars-drop zero cs s = s
scalars-drop (suc n) [] s = s
scalars-drop (suc n) (c ∷ cs) s = scalars-drop n cs (both_right (scalar c) (scalars cs) s)

-- the bytes of a text that is cut at two places
pub record IsCut (cs : List ℕ) (from to : ℕ) : Type 0 where
  pub start : length (encode_utf8_all (take from cs)) ≤ length (encode_utf8_all (take to cs))
  pub from_boundary : IsCharBoundary (encode_utf8_all cs) (length (encode_utf8_all (take from cs)))
  pub to_boundary : IsCharBoundary (encode_utf8_all cs) (length (encode_utf8_all (take to cs)))
  pub part : slice_range (encode_utf8_all cs) (length (encode_utf8_all (take from cs))) (length (encode_utf8_all (take to cs))) ≡ encode_utf8_all (slice_range cs from to)

pub is_cut : (cs : List ℕ) (from to : ℕ) → scalars cs ≡ true → from ≤ to → to ≤ length cs → IsCut cs from to
is_cut cs from to s h l =
    let prefix = take from cs in
    let part = take (to - from) (drop from cs) in
    let back = drop (to - from) (drop from cs) in
    let whole : prefix ++ (part ++ back) ≡ cs = ap (λ x. prefix ++ x) (take-append-drop (to - from) (drop from cs)) ∙ take-append-drop from cs in
    let at : from + (to - from) ≡ to = omega arith in
    let until : take to cs ≡ prefix ++ part = sym (ap (λ n. take n cs) at) ∙ take-add from (to - from) cs in
    let bytes : encode_utf8_all cs ≡ encode_utf8_all prefix ++ (encode_utf8_all part ++ encode_utf8_all back) =
    ap encode_utf8_all (sym whole) ∙ encodes-append prefix (part ++ back) ∙ ap (λ x. encode_utf8_all prefix ++ x) (encodes-append part back) in
    let to_bytes : encode_utf8_all (take to cs) ≡ encode_utf8_all prefix ++ encode_utf8_all part = ap encode_utf8_all until ∙ encodes-append prefix part in
    let rest_utf8 : IsUtf8 (encode_utf8_all part ++ encode_utf8_all back) =
    (drop from cs, (scalars-drop from cs s, sym (ap encode_utf8_all (take-append-drop (to - from) (drop from cs))) ∙ encodes-append part back)) in
    let back_utf8 : IsUtf8 (encode_utf8_all back) = (back, (scalars-drop (to - from) (drop from cs) (scalars-drop from cs s), refl)) in
    record {
      start = omega (arith, ap length to_bytes, length-append (encode_utf8_all prefix) (encode_utf8_all part));
      from_boundary = IsCharBoundary-at_seam (encode_utf8_all cs) (encode_utf8_all prefix) (encode_utf8_all part ++ encode_utf8_all back) bytes rest_utf8;
      to_boundary = subst (λ (xs : List ℕ). IsCharBoundary (encode_utf8_all cs) (length xs)) (sym to_bytes)
          (IsCharBoundary-at_seam (encode_utf8_all cs) (encode_utf8_all prefix ++ encode_utf8_all part) (encode_utf8_all back)
          (bytes ∙ sym (append_assoc (encode_utf8_all prefix) (encode_utf8_all part) (encode_utf8_all back))) back_utf8);
      part =
          let count : length (encode_utf8_all (take to cs)) - length (encode_utf8_all prefix) ≡ length (encode_utf8_all part) =
          omega (arith, ap length to_bytes, length-append (encode_utf8_all prefix) (encode_utf8_all part)) in
          (λ i. take (count i) (drop (length (encode_utf8_all prefix)) (bytes i)))
          ∙ ap (take (length (encode_utf8_all part))) (drop-append_seam (encode_utf8_all prefix) (encode_utf8_all part ++ encode_utf8_all back))
          ∙ take-append_seam (encode_utf8_all part) (encode_utf8_all back);
    }

-- a text is that of its characters
pub bytes_of_chars : (bytes : List ℕ) → IsUtf8 bytes → encode_utf8_all (chars bytes) ≡ bytes
bytes_of_chars bytes utf8 = encodes-chars bytes utf8

-- the byte that stands in the table
pub start_at : (starts cs : List ℕ) (i m : ℕ) → starts ≡ starts_from 0 cs → i ≤ length cs → m ≡ get_or starts i m → m ≡ length (encode_utf8_all (take i cs))
start_at starts cs i m e b at =
    let inside : i < length starts = omega (arith, ap length e, length-starts 0 cs) in
    let zero_at : get_or starts i 0 ≡ 0 + length (encode_utf8_all (take i cs)) = ap (λ (xs : List ℕ). get_or xs i 0) e ∙ get_or-starts 0 cs i b in
    at ∙ get_or_default starts i m 0 inside ∙ (omega (arith, zero_at))

-- the table of a text, or that its characters are its bytes
pub table_of : {V : Type 0} (items : V → List ℕ) (bytes cs : List ℕ) (o : Option V) (v : V) → o ≡ Some v → MatchOption o (IsAscii bytes) (λ w. items w ≡ starts_from 0 (chars bytes)) → chars bytes ≡ cs → items v ≡ starts_from 0 cs
table_of items bytes cs o v e h same = subst (λ x. MatchOption x (IsAscii bytes) (λ w. items w ≡ starts_from 0 (chars bytes))) e h ∙ ap (starts_from 0) same

pub bytes_are_chars : {V : Type 0} (items : V → List ℕ) (bytes cs : List ℕ) (o : Option V) → o ≡ None → MatchOption o (IsAscii bytes) (λ w. items w ≡ starts_from 0 (chars bytes)) → chars bytes ≡ cs → IsAscii bytes × (bytes ≡ cs)
bytes_are_chars items bytes cs o e h same =
    let ascii : IsAscii bytes = subst (λ x. MatchOption x (IsAscii bytes) (λ w. items w ≡ starts_from 0 (chars bytes))) e h in
    (ascii, sym (chars-IsAscii bytes ascii) ∙ same)

pub start_of_byte : (bytes cs : List ℕ) (i : ℕ) → IsAscii bytes × (bytes ≡ cs) → i ≤ length cs → i ≡ length (encode_utf8_all (take i cs))
start_of_byte bytes cs i (ascii, same) b =
    let inside : i ≤ length bytes = omega (arith, b, ap length same) in
    sym (length-take-le i bytes inside) ∙ ap length (sym (encodes-IsAscii (take i bytes) (IsAscii-take bytes i ascii))) ∙ ap (λ (xs : List ℕ). length (encode_utf8_all (take i xs))) same

pub cut_at : (bytes : List ℕ) (from to a b : ℕ) → IsUtf8 bytes → from ≤ to → to ≤ length (chars bytes) → a ≡ length (encode_utf8_all (take from (chars bytes))) → b ≡ length (encode_utf8_all (take to (chars bytes))) →
    (a ≤ b) × IsCharBoundary bytes a × IsCharBoundary bytes b × (slice_range bytes a b ≡ encode_utf8_all (slice_range (chars bytes) from to))
cut_at bytes from to a b utf8 h l at_from at_to =
    let same = bytes_of_chars bytes utf8 in
    let cut = is_cut (chars bytes) from to (scalars-chars bytes utf8) h l in (
      omega (arith, at_from, at_to, cut.start),
      subst (λ (xs : List ℕ). IsCharBoundary xs a) same (subst (λ n. IsCharBoundary (encode_utf8_all (chars bytes)) n) (sym at_from) cut.from_boundary),
      subst (λ (xs : List ℕ). IsCharBoundary xs b) same (subst (λ n. IsCharBoundary (encode_utf8_all (chars bytes)) n) (sym at_to) cut.to_boundary),
      (λ i. slice_range (sym same i) (at_from i) (at_to i)) ∙ cut.part,
    )

pub cut_in : (text bytes cs : List ℕ) (from to a b : ℕ) → IsUtf8 bytes → bytes ≡ text → chars text ≡ cs → from ≤ to → to ≤ length cs →
    a ≡ length (encode_utf8_all (take from cs)) → b ≡ length (encode_utf8_all (take to cs)) → (a ≤ b) × IsCharBoundary bytes a × IsCharBoundary bytes b × (slice_range bytes a b ≡ encode_utf8_all (slice_range cs from to))
cut_in text bytes cs from to a b utf8 same v h l at_from at_to =
    let all : chars bytes ≡ cs = ap chars same ∙ v in
    let to_in : to ≤ length (chars bytes) = omega (arith, l, ap length all) in
    let start = λ (i : ℕ). ap (λ (xs : List ℕ). length (encode_utf8_all (take i xs))) (sym all) in
    let cut = cut_at bytes from to a b utf8 h to_in (at_from ∙ start from) (at_to ∙ start to) in
    (cut.0, cut.1, cut.2, cut.3 ∙ ap (λ (xs : List ℕ). encode_utf8_all (slice_range xs from to)) all)

scalars-take : (n : ℕ) (cs : List ℕ) → scalars cs ≡ true → scalars (take n cs) ≡ true
scalars-take zero cs s = refl
scalars-take (suc n) [] s = refl
scalars-take (suc n) (c ∷ cs) s = both (scalar c) (scalars cs) (scalars (take n cs)) s (scalars-take n cs)
  where
    both : (a b d : Bool) → (a && b) ≡ true → (b ≡ true → d ≡ true) → (a && d) ≡ true
    both true b d e f = f e
    both false b d e f = cc

-- the characters of a part of a text
pub characters_of : (text bytes cs part : List ℕ) (from to : ℕ) → IsUtf8 bytes → bytes ≡ text → chars text ≡ cs → part ≡ encode_utf8_all (slice_range cs from to) → chars part ≡ slice_range cs from to
characters_of text bytes cs part from to utf8 same v e =
    let all : chars bytes ≡ cs = ap chars same ∙ v in
    let s : scalars cs ≡ true = subst (λ (xs : List ℕ). scalars xs ≡ true) all (scalars-chars bytes utf8) in
    ap chars e ∙ chars-encodes (slice_range cs from to) (scalars-take (to - from) (drop from cs) (scalars-drop from cs s))
