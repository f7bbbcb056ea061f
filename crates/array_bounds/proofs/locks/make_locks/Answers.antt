use Rattle.std.proofs.Common.{◌≡◌, true, List, ap, sym, ◌∙◌, map}
use Rattle.std.specs.Borrow.{Bor}
use Rattle.std.specs.List.{list_all}
use Rattle.vb_tree.specs.BoundTree.{Ty}
use Rattle.vb_tree.specs.declared.value.Type6.{Type6}
use Rattle.array_bounds.specs.LockTables.{has_type, shown_type}
use Rattle.array_bounds.specs.Locking.{elements}
use Rattle.array_bounds.specs.Programs.{shown_program}
use Rattle.array_bounds.proofs.Locked.{all_in, found_right}
use Rattle.array_bounds.proofs.locks.make_locks.Goals as goal

pub returns : goal.returns
returns c ty among p =
    let P = shown_program c.args.declared.now c.args.lines.now in
    let locks = c.in_ok-add_types.field-0.items in
    let are : map shown_type c.deref.result.now ≡ elements P = ap (λ (rs : List (Bor Type6)). map shown_type rs) c.deref.ensures.value ∙ c.in_ok-types.ensures in
    let known : list_all (has_type locks) (elements P) ≡ true = ap (λ (types : List Ty). list_all (has_type locks) types) (sym are) ∙ c.in_ok-add_types.ensures.all in
    found_right P c.args.pairs.now locks ty p c.in_ok-add_types.ensures.right (all_in (has_type locks) (elements P) known ty among)
