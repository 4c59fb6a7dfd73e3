-- Terminals stand first among the symbols.
use Rattle.std.proofs.Common.{◌≡◌, ◌⊎◌, inl, inr, ◌↔◌, ℕ, ◌<◌, ◌≤◌, List, length, Option, Some, None, slice_get, refl, ap, subst, arith}
use Rattle.std.specs.Prelude.{slice_index_or}
use Rattle.std.proofs.lemmas.Bool.{cases_lt}
use Rattle.recognizer_model.specs.declared.Item.{Item}
use Rattle.recognizer_model.specs.declared.flat.FlatSymbol.TheVariants.{Terminal}
use Rattle.recognizer_model.specs.Flat.{FlatGrammar}
use Rattle.recognizer_model.specs.Items.{after}
use Rattle.recognizer_model.specs.Invariant.{IsArranged}
use Rattle.item_rows.specs.Order.{or_end, symbol_or_end}
use Rattle.item_rows.specs.Kept.{StandsForTerminal}
use Rattle.item_rows.specs.Dotted.{no_item, dotted_at, IsTerminalSpan}
use Rattle.item_rows.proofs.Listed.{within}

module _ (g : FlatGrammar) (arranged : IsArranged g) where
  pub terminals_end : (n : ℕ) → ((x : ℕ) → x < n → StandsForTerminal g x) → ¬ StandsForTerminal g n → (x : ℕ) → (x < n) ↔ StandsForTerminal g x
  terminals_end n below none x = (below x, λ (t, e). back t e (cases_lt x n) (cases_lt n x))
    where
      back : (t : ℕ) → slice_get g.symbols x ≡ Some (Terminal t) → (x < n) ⊎ (n ≤ x) → (n < x) ⊎ (x ≤ n) → x < n
      back t e (inl l) _ = l
      back t e (inr le) (inl l) = let (s, is, _) = arranged.terminals n x t l e in absurd (none (s, is))
      back t e (inr le) (inr le') = let same : x ≡ n = omega arith in absurd (none (t, subst (λ z. slice_get g.symbols z ≡ Some (Terminal t)) same e))

pub no_terminal_past : (g : FlatGrammar) (n : ℕ) → length g.symbols ≤ n → ¬ StandsForTerminal g n
no_terminal_past g n le (t, e) = let lt = within g.symbols n (Terminal t) e in absurd (omega arith)

module _ (g : FlatGrammar) (count : ℕ) (few : count < 4294967296) (exact : (x : ℕ) → (x < count) ↔ StandsForTerminal g x) where
  waits : (o : Option ℕ) → or_end o < count → (x : ℕ) × (o ≡ Some x) × StandsForTerminal g x
  waits None lt = absurd (omega arith)
  waits (Some x) lt = (x, refl, (exact x).0 lt)

  pub terminal_span : (rules : List Item) (end : ℕ) →
      ((k : ℕ) (d : Item) → k < end → symbol_or_end g (slice_index_or rules k d) < count) → ((k : ℕ) (d : Item) → end ≤ k → k < length rules → count ≤ symbol_or_end g (slice_index_or rules k d)) →
      IsTerminalSpan g rules (record { start = 0; end = end })
  terminal_span rules end below above = record {
    order = omega arith;
    exact = λ k lt. (
      λ (from, to). waits (after g (dotted_at rules k)) (below k no_item to),
      λ (x, e, stands). (omega arith, last k lt x e ((exact x).1 stands) (cases_lt k end)),
    );
  }
    where
      last : (k : ℕ) → k < length rules → (x : ℕ) → after g (dotted_at rules k) ≡ Some x → x < count → (k < end) ⊎ (end ≤ k) → k < end
      last k lt x e lower (inl l) = l
      last k lt x e lower (inr le) = let a = above k no_item le lt in let s : symbol_or_end g (dotted_at rules k) ≡ x = ap or_end e in absurd (omega arith)
