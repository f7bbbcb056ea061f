use Rattle.std.proofs.Common.{◌≡◌, true, length, map}
use Rattle.std.specs.List.{list_all}
use Rattle.net_reader.proofs.ItemsLeft.{ItemsLeft}
use Rattle.net_reader.proofs.items.items.Given as goal

abbrev pub invariant-items : goal.invariant-items
invariant-items g l = record {
  left : ItemsLeft g.T.Item.item_at l.fn.text (map g.T.Item.view l.items.items) l.rest;
  held : list_all g.T.Item.fits (map g.T.Item.view l.items.items) ≡ true;
}

abbrev pub decreases-items : goal.decreases-items
decreases-items g l = length l.rest
