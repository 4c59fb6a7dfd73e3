-- A word at the front of a text, character by character.
use Rattle.std.proofs.Common.{◌≡◌, ℕ, ◌<◌, List, [], ◌∷◌, ◌++◌, sym, ap, ◌∙◌, Option, Some, None, MatchOption, arith, codes}
use denote.Bor.{Bor}
use Rattle.std.specs.Char.{encode_utf8}
use Rattle.tree_text.specs.Prefixes.{NeverBegins}
use Rattle.tree_text.proofs.Escapes.{encode_small, begins_small, never_small}

pub word_first : (text : List ℕ) (c : ℕ) (word : List ℕ) → c < 128 → NeverBegins text (encode_utf8 c) → NeverBegins text (c ∷ word)
word_first text c word h never r is = never (word ++ r) (is ∙ encode_small c (word ++ r) h)

pub word_next : (text rest : List ℕ) (c : ℕ) (word : List ℕ) → c < 128 → text ≡ encode_utf8 c ++ rest → NeverBegins rest word → NeverBegins text (c ∷ word)
word_next text rest c word h e never r is =
    let both : c ∷ rest ≡ c ∷ (word ++ r) = sym (begins_small text rest c h e) ∙ is in
    never r cc

pub word_some : (text rest : List ℕ) (c : ℕ) (word left : List ℕ) → c < 128 → text ≡ encode_utf8 c ++ rest → rest ≡ word ++ left → text ≡ c ∷ word ++ left
word_some text rest c word left h e is = begins_small text rest c h e ∙ ap (λ b. c ∷ b) is

pub undef_last : (text t1 t2 t3 t4 : List ℕ) (found : Option (Bor (List ℕ))) → text ≡ encode_utf8 117 ++ t1 → t1 ≡ encode_utf8 110 ++ t2 → t2 ≡ encode_utf8 100 ++ t3 → t3 ≡ encode_utf8 101 ++ t4 →
    MatchOption found (NeverBegins t4 (encode_utf8 102)) (λ x. t4 ≡ encode_utf8 102 ++ x.now) → MatchOption found (NeverBegins text (codes "undef")) (λ x. text ≡ codes "undef" ++ x.now)
undef_last text t1 t2 t3 t4 None a b c d e =
    word_next text t1 117 (codes "ndef") (omega arith) a
    (word_next t1 t2 110 (codes "def") (omega arith) b (word_next t2 t3 100 (codes "ef") (omega arith) c (word_next t3 t4 101 (codes "f") (omega arith) d (word_first t4 102 [] (omega arith) e))))
undef_last text t1 t2 t3 t4 (Some x) a b c d e =
    word_some text t1 117 (codes "ndef") x.now (omega arith) a
    (word_some t1 t2 110 (codes "def") x.now (omega arith) b (word_some t2 t3 100 (codes "ef") x.now (omega arith) c (word_some t3 t4 101 (codes "f") x.now (omega arith) d (begins_small t4 x.now 102 (omega arith) e))))

-- what is found after a character, where it may come
pub found_after : {P : Type 0} (may : P) (text : List ℕ) (c : ℕ) (found : Option (Bor (List ℕ))) → c < 128 →
    MatchOption found (NeverBegins text (encode_utf8 c)) (λ x. text ≡ encode_utf8 c ++ x.now) → MatchOption found (P → NeverBegins text (c ∷ [])) (λ x. P × (text ≡ c ∷ x.now))
found_after may text c None h e = λ _. never_small text c h e
found_after may text c (Some x) h e = (may, begins_small text x.now c h e)
