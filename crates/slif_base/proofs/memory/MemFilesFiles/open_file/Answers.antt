use Rattle.std.proofs.Common.{◌≡◌, [], ◌∷◌, ◌++◌, ◌⊎◌, Some, map, drop, ap, subst, ◌∙◌}
use Rattle.std.specs.Prelude.{string_bytes}
use Rattle.slif_base.specs.Memory.{FilesInMemory, OneCallMore}
use Rattle.slif_base.specs.Named.{told_among}
use Rattle.outside_model.specs.Told.{ToldFile, Opens}
use Rattle.slif_base.proofs.memory.MemFilesFiles.open_file.Goals as goal

pub returns-in_err-begin-clause-held : goal.returns-in_err-begin-clause-held
returns-in_err-begin-clause-held c = λ name. ap (λ (m : FilesInMemory). told_among m.files name) c.self.view_is

pub returns-in_err-begin-clause-same : goal.returns-in_err-begin-clause-same
returns-in_err-begin-clause-same c = ap (λ (m : FilesInMemory). m.files) c.self.view_is

pub returns-in-Ok-clause-held : goal.returns-in-Ok-clause-held
returns-in-Ok-clause-held c = λ name. ap (λ (m : FilesInMemory). told_among m.files name) c.self.view_is

pub returns-in-Ok-clause-same : goal.returns-in-Ok-clause-same
returns-in-Ok-clause-same c = ap (λ (m : FilesInMemory). m.files) c.self.view_is

pub returns-in-Err-clause-held : goal.returns-in-Err-clause-held
returns-in-Err-clause-held c = λ name. ap (λ (m : FilesInMemory). told_among m.files name) c.self.view_is

pub returns-in-Err-clause-same : goal.returns-in-Err-clause-same
returns-in-Err-clause-same c = ap (λ (m : FilesInMemory). m.files) c.self.view_is

pub returns-in_err-begin-clause-counts : goal.returns-in_err-begin-clause-counts
returns-in_err-begin-clause-counts c = subst (λ (m : FilesInMemory). OneCallMore m.calls c.begin.new.self) c.self.view_is c.begin.ensures.counts

pub returns-in-Ok-clause-counts : goal.returns-in-Ok-clause-counts
returns-in-Ok-clause-counts c = subst (λ (m : FilesInMemory). OneCallMore m.calls c.begin.new.self) c.self.view_is c.begin.ensures.counts

pub returns-in-Err-clause-counts : goal.returns-in-Err-clause-counts
returns-in-Err-clause-counts c = subst (λ (m : FilesInMemory). OneCallMore m.calls c.fail.new.self) c.self.view_is (record {
  fails = c.fail.ensures.fails ∙ c.begin.ensures.counts.fails;
  made = c.fail.ensures.made ∙ c.begin.ensures.counts.made;
})

pub returns-in-Err-clause-kept : goal.returns-in-Err-clause-kept
returns-in-Err-clause-kept c = ap (λ (m : FilesInMemory). m.current) c.self.view_is

pub returns-in-Ok-clause-opens : goal.returns-in-Ok-clause-opens
returns-in-Ok-clause-opens c =
    let name = c.args.name.now in
    let same : told_among (map (λ file. (string_bytes file.0, file.1.items)) c.deref.result.now) name ≡ told_among c.args.self.now.files name =
    ap (λ l. told_among (map (λ file. (string_bytes file.0, file.1.items)) l) name) c.deref.ensures.value ∙ ap (λ (m : FilesInMemory). told_among m.files name) c.self.view_is in
    subst (λ (t : ToldFile). Opens t (Some (drop c.in-Ok.rest.at c.in-Ok.rest.bytes.items))) same c.in-Ok.ensures.opens

pub returns-in-Ok-clause-asks : goal.returns-in-Ok-clause-asks
returns-in-Ok-clause-asks c = c.in-Ok.ensures.asks ∙ ap (λ (m : FilesInMemory). m.asked ++ c.args.name.now ∷ []) c.self.view_is

pub returns-in-Err-clause-asks : goal.returns-in-Err-clause-asks
returns-in-Err-clause-asks c =
    subst (λ (m : FilesInMemory). (map string_bytes c.open_copy.new.names.items ≡ m.asked ++ c.args.name.now ∷ []) ⊎ (map string_bytes c.open_copy.new.names.items ≡ m.asked ++ [])) c.self.view_is c.in-Err.ensures.asks
