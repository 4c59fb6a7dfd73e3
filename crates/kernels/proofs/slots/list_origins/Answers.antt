use Rattle.std.proofs.Common.{◌%◌, nat_eq}
use Rattle.std.proofs.lemmas.List.Filters.{dedup_is}
use Rattle.kernels.proofs.Slotting.{sorted_origins, sorted_all}
use Rattle.kernels.proofs.slots.list_origins.Goals as goal

pub returns-clause-origins : goal.returns-clause-origins
returns-clause-origins c =
    sorted_origins c.list_all.new.origins.items c.sort_unstable.new.self.items c.dedup.new.self.items c.sort_unstable.ensures.permutation c.sort_unstable.ensures.sorted
    (dedup_is nat_eq c.sort_unstable.new.self.items c.dedup.new.self.items c.dedup.ensures.filtered) c.type_inv.origins

pub returns-clause-all : goal.returns-clause-all
returns-clause-all c n h =
    sorted_all c.list_all.new.origins.items c.sort_unstable.new.self.items c.dedup.new.self.items c.sort_unstable.ensures.permutation c.sort_unstable.ensures.sorted
    (dedup_is nat_eq c.sort_unstable.new.self.items c.dedup.new.self.items c.dedup.ensures.filtered) (n % 4294967296) (c.in_ok-list_all.ensures n h)
