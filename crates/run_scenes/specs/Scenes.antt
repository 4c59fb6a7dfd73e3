-- What a run is given, and how it leaves the outside.
use Rattle.std.specs.Prelude.{◌≡◌, ℕ, List, [], ◌∷◌, Some, None, map, max, codes, string_bytes}
use Rattle.std.specs.Borrow.{Bor}
use Rattle.slif_base.specs.Memory.{InputInMemory, OutputInMemory, FilesInMemory, no_calls}
use Rattle.slif_base.specs.Named.{told_among}
use Rattle.run_model.specs.Outside.{Outside}
use Rattle.run_scenes.specs.declared.Given.{Given}
use Rattle.run_scenes.specs.declared.Device.{Device}
use Rattle.run_scenes.specs.declared.Device.TheVariants as device
use Rattle.run_scenes.specs.declared.Scene.{Scene}
use Rattle.run_scenes.specs.declared.Ended.{Ended}

abbrev pub texts_of : List (Bor (List ℕ)) → List (List ℕ)
texts_of texts = map (λ text. text.now) texts

-- the same, where these calls of a device fail
abbrev pub failing_of : Given → Device → Bor (List ℕ) → Given
failing_of given device.Files calls = record given { files_fail = calls }
failing_of given device.Input calls = record given { input_fails = calls }
failing_of given device.Out calls = record given { out_fails = calls }
failing_of given device.Err calls = record given { err_fails = calls }

-- the parts of the outside as a run is given them: two files, an input, and streams that take ten bytes at once
abbrev pub files_given : Given → FilesInMemory
files_given given = record {
  files = (codes "g.slif", given.grammar.now) ∷ (codes "i.txt", given.file.now) ∷ [];
  current = None;
  asked = [];
  calls = no_calls given.files_fail.now;
}

abbrev pub input_given : Given → InputInMemory
input_given given = record { left = given.input.now; give = max given.gives 1; calls = no_calls given.input_fails.now }

abbrev pub sink_given : List ℕ → OutputInMemory
sink_given fails = record { written = []; take = 10; calls = no_calls fails }

pub record IsSceneOf (given : Given) (scene : Scene) : Type 0 where
  pub words : map string_bytes scene.words.items ≡ texts_of given.words.now
  pub files : scene.files ≡ files_given given
  pub input : scene.input ≡ input_given given
  pub out : scene.out ≡ sink_given given.out_fails.now
  pub err : scene.err ≡ sink_given given.err_fails.now

-- what these parts tell
abbrev pub outside_of : FilesInMemory → InputInMemory → OutputInMemory → OutputInMemory → Outside
outside_of files input out err = record {
  files = record { file = told_among files.files; faults = files.calls.faults };
  input = record { bytes = Some input.left; faults = input.calls.faults };
  out = record { bytes = Some out.written; faults = out.calls.faults };
  err = record { bytes = Some err.written; faults = err.calls.faults };
}

abbrev pub before_of : Given → Outside
before_of given = outside_of (files_given given) (input_given given) (sink_given given.out_fails.now) (sink_given given.err_fails.now)

abbrev pub after_of : Ended → Outside
after_of end = outside_of end.scene.files end.scene.input end.scene.out end.scene.err

-- what stands on both streams of a run that has ended, and the names of files that it asked for
abbrev pub out_of : Ended → List ℕ
out_of end = end.scene.out.written

abbrev pub err_of : Ended → List ℕ
err_of end = end.scene.err.written

abbrev pub asked_of : Ended → List (List ℕ)
asked_of end = end.scene.files.asked
