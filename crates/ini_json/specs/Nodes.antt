-- What the nodes of the program's syntax tree stand for.
use Rattle.std.specs.Prelude.{◌≡◌, map, Result, IfOk, string_bytes}
use Rattle.std.specs.declared.alloc.AllocError.{AllocError}
use Rattle.ini_json.specs.declared.node.Entry.{Entry}
use Rattle.ini_json.specs.declared.node.Section.{Section}
use Rattle.ini_json.specs.declared.node.Node.{Node}
use Rattle.ini_json.specs.declared.node.Node.TheVariants as node
use Rattle.ini_json.specs.Settings.{Setting, Group, Part, Blank, Word, OneSetting, Settings, OneGroup, Groups}

abbrev pub setting_of : Entry → Setting
setting_of e = record { name = string_bytes e.name; text = string_bytes e.text }

abbrev pub group_of : Section → Group
group_of s = record { name = string_bytes s.name; settings = map setting_of s.entries.items }

abbrev pub part_of : Node → Part
part_of (node.Word text) = Word (string_bytes text)
part_of (node.Entry entry) = OneSetting (setting_of entry)
part_of (node.Entries entries) = Settings (map setting_of entries.items)
part_of (node.Section section) = OneGroup (group_of section)
part_of (node.Sections sections) = Groups (map group_of sections.items)
part_of node.Nothing = Blank

-- a node that stands for the part, where memory did not run out
abbrev pub Gives : Part → Result Node AllocError → Type 0
Gives part r = IfOk r (λ node. part_of node ≡ part)
