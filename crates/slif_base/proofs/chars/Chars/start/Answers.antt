use Rattle.std.proofs.Common.{◌≡◌, ◌<◌, suc, length, ap, arith, rules, string_bytes, Vec, Global, ℕ, ◌∙◌}
use Rattle.slif_base.proofs.Starts.{table_of, bytes_are_chars, length-starts, start_at, start_of_byte}
use Rattle.slif_base.proofs.chars.Chars.start.Goals as goal

pub index-requires : goal.index-requires
index-requires c =
    let table = table_of (λ (v : Vec ℕ Global). v.items) (string_bytes c.self.inside.text) _ _ _ c.in-Some.is c.self.invariant c.self.view_is in
    let count : length c.in-Some.starts.items ≡ suc (length c.args.self.now) = ap length table ∙ length-starts 0 c.args.self.now in
    let inside : c.args.place < length c.in-Some.starts.items = omega (arith, count, c.requires) in
    search rules

pub returns-in-Some : goal.returns-in-Some
returns-in-Some c =
    let table = table_of (λ (v : Vec ℕ Global). v.items) (string_bytes c.self.inside.text) _ _ _ c.in-Some.is c.self.invariant c.self.view_is in
    start_at _ c.args.self.now c.args.place _ table c.requires c.index.ensures

pub returns-in-None : goal.returns-in-None
returns-in-None c =
    start_of_byte _ c.args.self.now c.args.place (bytes_are_chars (λ (v : Vec ℕ Global). v.items) (string_bytes c.self.inside.text) _ _ c.in-None.is c.self.invariant c.self.view_is) c.requires
