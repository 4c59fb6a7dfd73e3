-- How many steps flat steps are written as.
use Rattle.std.proofs.Common.{◌≡◌, ℕ, suc, ◌+◌, Bool, true, false, cond, List, [], ◌∷◌, ◌++◌, length, refl, sym, ap, ◌∙◌, append_assoc, length-append, arith}
use Rattle.std.proofs.lemmas.List.{append-nil}
use Rattle.grammar_model.specs.Grammar.{Grammar}
use Rattle.grammar_model.specs.Trees.{Tree, Children, Leaf, Nulled, Node, Child, from_of}
use Rattle.grammar_model.specs.Steps.{Step, TokenStep, NulledStep, RuleStep, steps_of_all}
use Rattle.recognizer_model.specs.declared.flat.FlatSource.{FlatSource}
use Rattle.recognizer_model.specs.declared.flat.FlatSource.TheVariants.{Written, Top as OfStart}
use Rattle.recognizer_model.specs.Flat.{FlatGrammar, source_of}
use Rattle.recognizer_model.specs.FlatForm.{is_list_node, node_by, tree_of, children_of, inside, join}
use Rattle.forest_laws.specs.Guide.{IsRowAt}
use Rattle.forest_laws.specs.Written.{sum_newest, is_list_rule, rule_written, step_written, counts_after, steps_written}
use Rattle.forest_laws.proofs.Guide.{rows_lead}
use Rattle.forest_laws.proofs.Written.{IsWritten, AreWritten, counts_of, children_written}
use Rattle.flat_steps.specs.Writing.{counts_behind}
use Rattle.tree_iter.specs.Leads.{rule_size, step_size, size_of}
use Rattle.flat_steps.proofs.Written.{written_both}

pub size_both : (g : FlatGrammar) (a b : List Step) → size_of g (a ++ b) ≡ size_of g a + size_of g b
size_both g [] b = omega arith
size_both g (s ∷ a) b = let h = size_both g a b in omega arith

rule_sized : (b : Bool) (s : FlatSource) (n p q : ℕ) → length (rule_written b s n p q) ≡ rule_size b s
rule_sized true s n p q = refl
rule_sized false (Written i) n p q = refl
rule_sized false (OfStart k) n p q = refl

step_sized : (w : Grammar) (g : FlatGrammar) (counts : List ℕ) (step : Step) → length (step_written w g counts step) ≡ step_size g step
step_sized w g counts (TokenStep x p q) = refl
step_sized w g counts (NulledStep x p) = refl
step_sized w g counts (RuleStep r n p q) = rule_sized (is_list_rule g r) (source_of g r) (sum_newest n counts) p q

pub sized : (w : Grammar) (g : FlatGrammar) (counts : List ℕ) (steps : List Step) → length (steps_written w g counts steps) ≡ size_of g steps
sized w g counts [] = refl
sized w g counts (s ∷ ss) =
    let one = step_sized w g counts s in
    let others = sized w g (counts_after g counts s) ss in
    length-append (step_written w g counts s) (steps_written w g (counts_after g counts s) ss) ∙ (λ i. one i + others i)

pub children_sized : (w : Grammar) (g : FlatGrammar) (cs : Children) → AreWritten w g cs → length (steps_of_all (children_of w g cs)) ≡ size_of g (steps_of_all cs)
children_sized w g cs h =
    ap (λ (l : List Step). length l) (sym (append-nil (steps_of_all (children_of w g cs))) ∙ sym (children_written w g cs h [] []))
    ∙ sized w g [] (steps_of_all cs ++ [])
    ∙ ap (size_of g) (append-nil (steps_of_all cs))

from_written : (w : Grammar) (g : FlatGrammar) (t : Tree) → IsWritten w g t → from_of (tree_of w g t) ≡ from_of t
from_written w g (Leaf x p q) h = refl
from_written w g (Nulled x p) h = refl
from_written w g (Node r cs p q) h = ap (λ s. from_of (node_by s (children_of w g cs) p q)) h.0.1

-- the row of the last step of a node's first children tells where the last of them begins, and how many steps are written before that
pub row_leads : (w : Grammar) (g : FlatGrammar) (done rest : List Step) (prefix : Children) (last : Tree) (to : List Step) (place from below : ℕ) → AreWritten w g (Child prefix last) → is_list_node g last ≡ false →
    to ≡ steps_written w g [] (done ++ (steps_of_all (Child prefix last) ++ rest)) → suc place ≡ size_of g done + size_of g (steps_of_all (Child prefix last)) → IsRowAt to place from below →
    (from ≡ from_of last) × (below ≡ size_of g done + size_of g (steps_of_all prefix))
row_leads w g done rest prefix last to place from below is no_list to_is at row =
    let counts : List ℕ = counts_behind g [] done in
    let before : List Step = steps_written w g [] done in
    let behind : List Step = steps_written w g (counts_of w g (Child prefix last) counts) rest in
    let kids : children_of w g (Child prefix last) ≡ Child (children_of w g prefix) (tree_of w g last) =
    ap (λ b. cond b (join (children_of w g prefix) (inside w g last)) (Child (children_of w g prefix) (tree_of w g last))) no_list in
    let whole : steps_written w g counts (steps_of_all (Child prefix last) ++ rest) ≡ steps_of_all (Child (children_of w g prefix) (tree_of w g last)) ++ behind =
    children_written w g (Child prefix last) is counts rest ∙ ap (λ c. steps_of_all c ++ behind) kids in
    let split : to ≡ (before ++ steps_of_all (Child (children_of w g prefix) (tree_of w g last))) ++ behind =
    to_is ∙ written_both w g [] done (steps_of_all (Child prefix last) ++ rest) ∙ ap (λ l. before ++ l) whole ∙ sym (append_assoc before (steps_of_all (Child (children_of w g prefix) (tree_of w g last))) behind) in
    let sizes = sized w g [] done in
    let own : length (steps_of_all (Child (children_of w g prefix) (tree_of w g last))) ≡ size_of g (steps_of_all (Child prefix last)) = ap (λ c. length (steps_of_all c)) (sym kids) ∙ children_sized w g (Child prefix last) is in
    let both = length-append before (steps_of_all (Child (children_of w g prefix) (tree_of w g last))) in
    let size : suc place ≡ length (before ++ steps_of_all (Child (children_of w g prefix) (tree_of w g last))) = at ∙ (λ i. sym sizes i + sym own i) ∙ sym both in
    let lead = rows_lead to before behind (children_of w g prefix) (tree_of w g last) place from below split size row in (
      lead.0 ∙ from_written w g last is.1,
      lead.1 ∙ length-append before (steps_of_all (children_of w g prefix)) ∙ (let some = children_sized w g prefix is.0 in λ i. sizes i + some i),
    )
