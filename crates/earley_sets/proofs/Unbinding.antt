-- A recognizer that is taken from its flat grammar.
use Rattle.std.proofs.Common.{◌≡◌, ℕ, List, sym, ap, subst}
use Rattle.recognizer_model.specs.Flat.{FlatGrammar}
use Rattle.recognizer_model.specs.declared.Item.{Item}
use Rattle.leo_items.specs.Memo.{pairs_of}
use Rattle.item_rows.specs.Heads.{AreHeads}
use Rattle.item_rows.specs.Rows.{ItemRows}
use Rattle.item_rows.specs.Unbound.{AreRowsOf, rows_with}
use Rattle.begun_lists.specs.Met.{AreFound}
use Rattle.expected_terminals.specs.Expected.{KnowsLast}
use Rattle.earley_sets.specs.Hiding.{NotesTwice}
use Rattle.earley_sets.specs.Recognizer.{Recognizer, IsKept}
use Rattle.earley_sets.specs.Unbound.{IsUnboundOf}
use Rattle.earley_sets.specs.declared.recce.UnboundRecce.{UnboundRecce}

module _ (g : FlatGrammar) (r : UnboundRecce) where
  abbrev seen : List (List Item) → Recognizer
  seen sets = record { flat = g; start = r.start; edges = r.edges; sets = sets; noted = pairs_of r.memo }

  pub unbound : (rows : ItemRows) → IsKept (seen rows.sets) r.top r.memo → AreHeads g r.heads → rows.flat ≡ g → AreFound g rows.shared r.lists → KnowsLast g rows.sets r.expected → NotesTwice g rows.sets r.hiding.items →
      AreRowsOf rows.flat r.rows → rows_with rows.flat r.rows ≡ rows → IsUnboundOf g r
  unbound rows kept heads same lists expected hiding are is =
      let with_g : rows_with g r.rows ≡ rows = subst (λ (h : FlatGrammar). rows_with h r.rows ≡ rows) same is in
      let sets_are = sym (ap (λ (all : ItemRows). all.sets) with_g) in
      record {
        kept = subst (λ sets. IsKept (seen sets) r.top r.memo) sets_are kept;
        heads = heads;
        rows = subst (λ (h : FlatGrammar). AreRowsOf h r.rows) same are;
        lists = subst (λ shared. AreFound g shared r.lists) (sym (ap (λ (all : ItemRows). all.shared) with_g)) lists;
        expected = subst (λ sets. KnowsLast g sets r.expected) sets_are expected;
        hiding = subst (λ sets. NotesTwice g sets r.hiding.items) sets_are hiding;
      }

  pub bound : (rows : ItemRows) → rows ≡ rows_with g r.rows → IsUnboundOf g r →
      IsKept (seen rows.sets) r.top r.memo × AreHeads g r.heads × (rows.flat ≡ g) × AreFound g rows.shared r.lists × KnowsLast g rows.sets r.expected × NotesTwice g rows.sets r.hiding.items
  bound rows same h = (
    subst (λ (all : ItemRows). IsKept (seen all.sets) r.top r.memo) (sym same) h.kept,
    h.heads,
    ap (λ (all : ItemRows). all.flat) same,
    subst (λ (all : ItemRows). AreFound g all.shared r.lists) (sym same) h.lists,
    subst (λ (all : ItemRows). KnowsLast g all.sets r.expected) (sym same) h.expected,
    subst (λ (all : ItemRows). NotesTwice g all.sets r.hiding.items) (sym same) h.hiding,
  )
