-- A text that tells no place names none of a list of derivations.
use Rattle.std.proofs.Common.{◌≡◌, ◌≢◌, ℕ, zero, suc, ◌<◌, ◌≤◌, List, [], ◌∷◌, ◌++◌, length, Contains, Option, Some, None, refl, sym, ap, ◌∙◌, subst, arith}
use Rattle.std.proofs.lemmas.List.Elements.{Contains-append_left}
use Rattle.grammar_model.specs.declared.Edge.{Edge}
use Rattle.grammar_model.specs.declared.limits.TheConstants.{LONGEST_CURSOR}
use Rattle.grammar_model.specs.Grammar.{Grammar, Slot}
use Rattle.grammar_model.specs.Trees.{Tree}
use Rattle.grammar_model.specs.Derives.{Held, Derives}
use Rattle.grammar_core.specs.Written.{IsWritten}
use Rattle.cursor_model.specs.Cursor.{cursor_of}
use Rattle.cursor_model.specs.Laid.{Spells}
use Rattle.cursor_model.specs.Laws.{AreUnits}
use Rattle.cursor_model.specs.Rest.{start_text, place_after, IsPlaceOf, NamesNone}
use Rattle.tellings.specs.Places.{TellsNoPlace}
use Rattle.tellings.proofs.Spelled.{spelled}

-- the last of some derivations, whose cursor is the place after them
record HasLast (text : List ℕ) (trees : List Tree) : Type 0 where
  last : Tree
  among : Contains trees last
  place : place_after text trees ≡ cursor_of last

has_last : (text : List ℕ) (t : Tree) (ts : List Tree) → HasLast text (t ∷ ts)
has_last text t [] = record { last = t; among = (0, omega arith, refl); place = refl }
has_last text t (u ∷ ts) =
    let r = has_last (cursor_of t) u ts in
    let (k, within, is) = r.among in
    record { last = r.last; among = (suc k, omega (arith, within), is); place = r.place }

module _ (g : Grammar) (edges : List Edge) (units : AreUnits edges) (slot : Slot) (q : ℕ) (trees : List Tree) (each : (t : Tree) → Contains trees t → Derives g (Held edges) slot 0 q t) where
  among_all : (before rest : List Tree) (t : Tree) → trees ≡ before ++ rest → Contains before t → Contains trees t
  among_all before rest t parts here = subst (λ (l : List Tree). Contains l t) (sym parts) (Contains-append_left before rest t here)

  pub none_told : (text : List ℕ) → IsWritten g → slot.symbol < length g.names → TellsNoPlace text → NamesNone trees text
  none_told text written known lacks [] rest place = lacks.no_start place.is
  none_told text written known lacks (t ∷ before) rest place =
      let r = has_last start_text t before in
      let cursor : text ≡ cursor_of r.last = place.is ∙ r.place in
      let short : length (cursor_of r.last) ≤ LONGEST_CURSOR = subst (λ (l : List ℕ). length l ≤ LONGEST_CURSOR) cursor place.within in
      let d = each r.last (among_all (t ∷ before) rest r.last place.parts r.among) in
      lacks.no_tree r.last (subst (λ (l : List ℕ). Spells l r.last) (sym cursor) (spelled g written edges slot q r.last units known d short))
