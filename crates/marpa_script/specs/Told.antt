-- What a command of the program stands for.
use Rattle.std.specs.Prelude.{ℕ, List, map}
use Rattle.std.specs.Option.{option_copied}
use Rattle.std.specs.Borrow.{Bor}
use Rattle.script_model.specs.Commands as model
use Rattle.marpa_script.specs.declared.commands.Command.{Command}
use Rattle.marpa_script.specs.declared.commands.Command.TheVariants.{Symbol, Rule, Sequence, Start, Precompute, Alternative, Complete, Expected, Report, Trees}

abbrev pub texts : List (Bor (List ℕ)) → List (List ℕ)
texts = map (λ text. text.now)

abbrev pub told : Command → model.Command
told (Symbol name) = model.Symbol name.now
told (Rule lhs rhs) = model.Rule lhs.now (texts rhs.now)
told (Sequence lhs item plus separator proper) = model.Sequence lhs.now item.now plus (option_copied separator) proper
told (Start name) = model.Start name.now
told Precompute = model.Precompute
told (Alternative name length) = model.Alternative name.now length
told Complete = model.Complete
told Expected = model.Expected
told (Report at) = model.Report at
told (Trees count) = model.Trees count
