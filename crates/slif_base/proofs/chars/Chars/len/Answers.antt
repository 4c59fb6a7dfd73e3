use Rattle.std.proofs.Common.{◌≡◌, ◌∙◌, suc, length, ap, arith, rules, string_bytes, Vec, Global, ℕ}
use Rattle.slif_base.proofs.Starts.{table_of, bytes_are_chars, length-starts}
use Rattle.slif_base.proofs.chars.Chars.len.Goals as goal

pub overflow_sub-result : goal.overflow_sub-result
overflow_sub-result c =
    let table = table_of (λ (v : Vec ℕ Global). v.items) (string_bytes c.self.inside.text) _ _ _ c.in-Some.is c.self.invariant c.self.view_is in
    let count : length c.in-Some.starts.items ≡ suc (length c.args.self.now) = ap length table ∙ length-starts 0 c.args.self.now in
    let long : c.len.result ≡ length c.in-Some.starts.items = search rules in
    omega arith

pub returns-in-Some : goal.returns-in-Some
returns-in-Some c =
    let table = table_of (λ (v : Vec ℕ Global). v.items) (string_bytes c.self.inside.text) _ _ _ c.in-Some.is c.self.invariant c.self.view_is in
    let count : length c.in-Some.starts.items ≡ suc (length c.args.self.now) = ap length table ∙ length-starts 0 c.args.self.now in
    let long : c.len.result ≡ length c.in-Some.starts.items = search rules in
    omega arith

pub returns-in-None : goal.returns-in-None
returns-in-None c =
    let same = bytes_are_chars (λ (v : Vec ℕ Global). v.items) (string_bytes c.self.inside.text) _ _ c.in-None.is c.self.invariant c.self.view_is in
    let long : c.len-in-None.result ≡ length (string_bytes c.self.inside.text) = search rules in
    long ∙ ap length same.1
