-- What is written of the hints.
use Rattle.std.proofs.Common.{◌≡◌, ℕ, List, [], ◌++◌, Option, subst, ap, ◌∙◌}
use Rattle.std.specs.List.{flat_map, count_by}
use Rattle.std.specs.Str.{chars}
use Rattle.std.specs.Io.KnownBytes.{Appends}
use Rattle.language_model.specs.Description.{Statement}
use Rattle.lint_hints.specs.declared.hint.Hint.{Hint as HeldHint}
use Rattle.slif_lint.specs.Described.{IsDescriptionOf}
use Rattle.slif_lint.specs.Told.{AreListed, is_told, told_line, AreTold, IsWritten}

pub told_are : (d : List Statement) (cs : List ℕ) (hints slice : List HeldHint) (count : ℕ) (old new : List ℕ) → AreListed d hints → slice ≡ hints → old ≡ [] → new ≡ old ++ flat_map (told_line cs) slice → count ≡ count_by (is_told cs) slice → AreTold d cs count new
told_are d cs hints slice count old new listed same none wrote counted = record {
  hints = hints;
  listed = listed;
  count_is = counted ∙ ap (count_by (is_told cs)) same;
  is = wrote ∙ (ap (λ bytes. bytes ++ flat_map (told_line cs) slice) none ∙ ap (flat_map (told_line cs)) same);
}

pub written_is : (grammar cs : List ℕ) (d ds : List Statement) (count : ℕ) (out bytes : List ℕ) (old new : Option (List ℕ)) → cs ≡ chars grammar → IsDescriptionOf d cs → ds ≡ d → AreTold ds cs count out → bytes ≡ out → Appends old new bytes → IsWritten grammar count old new
written_is grammar cs d ds count out bytes old new are described same told is appended = record {
  statements = d;
  written = out;
  described = subst (λ cs. IsDescriptionOf d cs) are described;
  told = subst (λ cs. AreTold d cs count out) are (subst (λ ds. AreTold ds cs count out) same told);
  appended = subst (λ bytes. Appends old new bytes) is appended;
}
