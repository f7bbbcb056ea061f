-- A Get of a property whose first part is a Get is that part, since no part stands before the first one.
use Rattle.std.proofs.Common.{◌≡◌, refl, sym, ap, subst, ◌∙◌, ℕ, ◌<◌, ◌≤◌, arith, Bool, true, false, not, nat_eq, nat_lt, true≢false, Option, Some, None, List, eq-eqb, eqb-true}
use Rattle.std.specs.Prelude.{◌||◌, get_or, is_some, position, slice_get}
use Rattle.std.proofs.lemmas.Bool.Decides.{nat_tests}
use Rattle.std.proofs.lemmas.List.Quantifiers.{position-Some}
use Rattle.std.proofs.lemmas.Option.{slice_get-get_or}
use Rattle.up_base.proofs.Tests.{and_true, both_true}
use Rattle.vb_tree.specs.declared.declared.ProcKind.{ProcKind}
use Rattle.vb_tree.specs.declared.declared.ProcKind.TheVariants as kind
use Rattle.bound_tree.specs.Tree.{Declarations, Procedure}
use Rattle.written_trees.specs.Arguments.{is_property_kind}
use Rattle.written_trees.specs.Heads.{is_function}
use Rattle.written_trees.specs.Properties.{is_counted, is_kind, is_number, is_part, part_number}
use Rattle.run_matches.specs.Upgrades.{Upgrade}
use Rattle.run_statements.specs.Written.{FirstsAreParts}
use Rattle.run_laws.specs.Premises.{GetsAreFirst}
use Rattle.run_laws.proofs.Covered.{some_is}
use Rattle.run_laws.proofs.Names.{below}
use Rattle.run_laws.proofs.Parts.{JoinedPart, joined_part, part_kind}

-- what passes doesn't stand before the first that does
least : {X : Type 0} (test : X → Bool) (xs : List X) (i k : ℕ) (x : X) → position test xs ≡ Some i → slice_get xs k ≡ Some x → test x ≡ true → k ≤ i → k ≡ i
least test xs i k x first at passes le = by (nat_lt k i) refl
  where
    there : get_or xs k x ≡ x
    there = some_is (sym (slice_get-get_or xs k x (below xs k x at)) ∙ at)

    by : (b : Bool) → nat_lt k i ≡ b → k ≡ i
    by true e =
        let before : k < i = grind (arith, nat_tests, e) in
        absurd (true≢false (sym (ap test there ∙ passes) ∙ (position-Some test xs i x first).2 k before))
    by false e = grind (arith, nat_tests, e, le)

number_is : (p : ℕ) (o : Option ℕ) → is_number p o ≡ true → o ≡ Some p
number_is p None h = absurd (true≢false (sym h))
number_is p (Some q) h = ap Some (sym (eqb-true p q h))

getter : (k : ProcKind) → is_property_kind k ≡ true → is_function k ≡ true → k ≡ kind.Get
getter kind.Get h e = refl
getter kind.Sub h e = absurd (true≢false (sym h))
getter kind.Function h e = absurd (true≢false (sym h))
getter _ h e = absurd (true≢false (sym e))

pub gets_are_first : (U : Upgrade) → FirstsAreParts U.program.declarations → GetsAreFirst U
gets_are_first U firsts p x f here is joined at function =
    let D : Declarations = U.program.declarations in
    let n : ℕ = x.first.0 in
    let found = firsts p x here (ap is_property_kind is) in
    let part : JoinedPart D p x = joined_part D p x joined in
    let own : f.first.0 ≡ n = ap (λ (q : Procedure). q.first.0) (some_is (sym at ∙ found.2)) ∙ found.3 in
    let get : f.kind ≡ kind.Get = getter f.kind (part_kind D n n f part.parts at own) function in
    let counted : part_number D kind.Get n ≡ Some p =
    number_is p (part_number D kind.Get n)
    (subst (λ k. is_number p (part_number D k n) ≡ true) is
    (both_true (is_counted D p x) (not (is_kind kind.Set x.kind) || not (is_some (part_number D kind.Let n))) part.placed).0) in
    least (is_part n kind.Get) D.procs p n f counted at
    (and_true (nat_eq f.first.0 n) (is_kind kind.Get f.kind) (eq-eqb f.first.0 n own) (ap (is_kind kind.Get) get)) found.0
