use Rattle.std.proofs.Common.{◌≡◌, length, take}
use Rattle.kernel_base.proofs.ids.copied.Given as goal

abbrev pub invariant-places : goal.invariant-places
invariant-places l = record { long : length l.ids ≡ 256; taken : take l.place l.ids ≡ take l.place l.list }
