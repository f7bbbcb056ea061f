use Rattle.std.proofs.Common.{◌-◌, map}
use Rattle.net_tree.specs.View.{procedure_of}
use Rattle.support_text.specs.FixedFunctions.{printing_functions, basic_functions, variant_functions, arithmetic_functions, logic_functions, conversion_functions, assignment_functions}
use Rattle.support_text.specs.Steps.{built}
use Rattle.support_text.proofs.Placed.{made_at, printing_placed, basic_placed, variant_placed, arithmetic_placed, logic_placed, conversion_placed, assignment_placed}
use Rattle.support_text.proofs.fixed.fixed_function.Goals as goal

pub returns-then-place-lt7 : goal.returns-then-place-lt7
returns-then-place-lt7 c =
    printing_placed c.args.place (procedure_of c.in_ok-build_at.field-0)
    (made_at (map built c.printing_routines.result.now) printing_functions c.args.place (procedure_of c.in_ok-build_at.field-0) c.printing_routines.ensures c.in_ok-build_at.ensures)

pub returns-then-place-lt18 : goal.returns-then-place-lt18
returns-then-place-lt18 c =
    basic_placed c.args.place (procedure_of c.in_ok-build_at-2.field-0) c.if-place-lt7.false
    (made_at (map built c.basic_routines.result.now) basic_functions (c.args.place - 7) (procedure_of c.in_ok-build_at-2.field-0) c.basic_routines.ensures c.in_ok-build_at-2.ensures)

pub returns-then-place-lt22 : goal.returns-then-place-lt22
returns-then-place-lt22 c =
    variant_placed c.args.place (procedure_of c.in_ok-build_at-3.field-0) c.if-place-lt18.false
    (made_at (map built c.variant_routines.result.now) variant_functions (c.args.place - 18) (procedure_of c.in_ok-build_at-3.field-0) c.variant_routines.ensures c.in_ok-build_at-3.ensures)

pub returns-then-place-lt28 : goal.returns-then-place-lt28
returns-then-place-lt28 c =
    arithmetic_placed c.args.place (procedure_of c.in_ok-build_at-4.field-0) c.if-place-lt22.false
    (made_at (map built c.arithmetic_routines.result.now) arithmetic_functions (c.args.place - 22) (procedure_of c.in_ok-build_at-4.field-0) c.arithmetic_routines.ensures c.in_ok-build_at-4.ensures)

pub returns-then-place-lt32 : goal.returns-then-place-lt32
returns-then-place-lt32 c =
    logic_placed c.args.place (procedure_of c.in_ok-build_at-5.field-0) c.if-place-lt28.false
    (made_at (map built c.logic_routines.result.now) logic_functions (c.args.place - 28) (procedure_of c.in_ok-build_at-5.field-0) c.logic_routines.ensures c.in_ok-build_at-5.ensures)

pub returns-then-place-lt39 : goal.returns-then-place-lt39
returns-then-place-lt39 c =
    conversion_placed c.args.place (procedure_of c.in_ok-build_at-6.field-0) c.if-place-lt32.false
    (made_at (map built c.conversion_routines.result.now) conversion_functions (c.args.place - 32) (procedure_of c.in_ok-build_at-6.field-0) c.conversion_routines.ensures c.in_ok-build_at-6.ensures)

pub returns : goal.returns
returns c =
    assignment_placed c.args.place (procedure_of c.in_ok-build_at-7.field-0) c.if-place-lt39.false
    (made_at (map built c.assignment_routines.result.now) assignment_functions (c.args.place - 39) (procedure_of c.in_ok-build_at-7.field-0) c.assignment_routines.ensures c.in_ok-build_at-7.ensures)
