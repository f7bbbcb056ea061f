use Rattle.std.proofs.Common.{◌≡◌, true, sym, subst, drop, map, ◌∙◌}
use Rattle.std.specs.List.{list_all}
use Rattle.net_reader.proofs.ItemsLeft.{ItemsLeft, all_pushed, items_go_on, pushed}
use Rattle.net_reader.proofs.items.items.Goals as goal

pub items-preserved : goal.items-preserved
items-preserved g c =
    let item = g.T.Item in
    let before = map item.view c.items.items.items in
    let x = item.view c.in_ok-item.item in
    let are = pushed item.view c.items.items.items c.push.new.self.items c.in_ok-item.item c.in_ok-push.ensures.items in
    record {
      left = rw c.behind-rest.ensures
          (subst (λ xs. ItemsLeft item.item_at c.args.text.now xs (drop 2 c.in_ok-item.beyond.now)) are
          (items_go_on item.item_at c.args.text.now before c.items.rest.now x c.in_ok-item.beyond.now c.items.invariant.left c.in_ok-item.ensures.answers c.in_ok-item.ensures.shorter
          (sym c.begins_with.ensures ∙ c.if-not-begins_with.false)));
      held = subst (λ xs. list_all item.fits xs ≡ true) are (all_pushed item.fits before x c.items.invariant.held c.in_ok-item.ensures.held);
    }
