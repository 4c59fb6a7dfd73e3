use Rattle.std.proofs.Common.{◌≡◌, refl, length, arith}
use Rattle.plain_lister.proofs.Held.{kept}
use Rattle.plain_lister.proofs.store.keep_list.Goals as goal

pub returns : goal.returns
returns c =
    let number : c.len-number.result ≡ length c.args.store.now.lists.items = omega (arith, c.args.store.now.lists.ok, c.len-number.ensures) in
    kept c.args.w.now c.args.input.now c.args.store.now (record { cells = c.args.store.now.cells; lists = c.push.new.self; memo = c.insert.new.self })
    c.args.x c.args.n c.args.p c.args.q c.len-number.result c.args.places.items refl c.in_ok-push.ensures.items number c.in_ok-insert.ensures.updates.0 c.requires.sound c.requires.within c.requires.told
