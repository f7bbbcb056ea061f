-- The laws, under any pledge and under that of a frame.
use Rattle.run_matches.specs.Keeping.{given_types}
use Rattle.expression_laws.proofs.Giving.{giving}
use Rattle.std.proofs.Common.{◌≡◌, inr, refl, ℕ, true, false, ◌&&◌, inl}
use Rattle.std.specs.Prelude.{slice_get}
use Rattle.bound_tree.specs.Tree.{typed, variable, element, call}
use Rattle.bound_facts.specs.Node.{type_at}
use Rattle.net_tree.specs.Tree.{call_of}
use Rattle.vb6_run.specs.Expressions as source
use Rattle.vb6_run.specs.Expressions.{Context}
use Rattle.vb6_run.specs.Store.{SourceFrame}
use Rattle.net_run.specs.Expressions as target
use Rattle.net_run.specs.Lines.{scope_of}
use Rattle.net_run.specs.Names as net_names
use Rattle.written_trees.specs.Exprs.{callee_of, exp_of, passed_of}
use Rattle.run_matches.specs.CoveredExprs.{is_giving}
use Rattle.run_matches.specs.Frames.{frame_pledge}
use Rattle.run_matches.specs.Maps.{World}
use Rattle.run_matches.specs.Pledges.{Pledge}
use Rattle.run_matches.specs.Upgrades.{Upgrade}
use Rattle.run_statements.specs.Elements.{IndexesAgree}
use Rattle.run_statements.specs.Groups.{GroupsAgree, PlacesAgree}
use Rattle.run_statements.specs.Members.{MembersAgree, ObjectsAgree}
use Rattle.run_statements.specs.Objects.{ClassesAreWritten}
use Rattle.run_statements.specs.Ways.{passings_by}
use Rattle.run_statements.specs.Frames.{ArraysAgree, ElementsAgree, AnyParts, CallsAreMade, context_of, ExpressionsAgree}
use Rattle.run_matches.specs.Formed.{are_formed, are_longs, has_elements, types_of}
use Rattle.agreeing_laws.proofs.Agreeing.{agrees_weaker}
use Rattle.expression_laws.specs.Calls.{GivenMatch}
use Rattle.expression_laws.specs.Statements.{ArraysAgreeBy, ElementsAgreeBy, IndexesAgreeBy, FormedExpressionsAgreeBy, FormedScalarsAgreeBy, FormedScalarsAgree, GroupsAgreeBy, MembersAgreeBy, ObjectsAgreeBy, ParametersAreSound, PlacesAgreeBy}
use Rattle.expression_laws.proofs.Types.{both_true}
use Rattle.expression_laws.proofs.Checks.{plain_agrees}
use Rattle.expression_laws.proofs.Arguments.{stands_now}
use Rattle.expression_laws.proofs.Images.{images_now}
use Rattle.expression_laws.proofs.Elements.{array_agrees}
use Rattle.expression_laws.proofs.ElementValues.{element_agrees}
use Rattle.expression_laws.proofs.ArrayUses.{all_long, from_none, indexed_by}
use Rattle.expression_laws.proofs.Callees.{called_apart}
use Rattle.expression_laws.proofs.CallsGiven.{from_first}
use Rattle.expression_laws.proofs.PlacedCalls.{call_placed}
use Rattle.expression_laws.proofs.Expressions.{expression_agrees, group_agrees, indexes_agree, passed_agree}
use Rattle.expression_laws.proofs.KeptObjects.{members_agree_by, objects_agree_by}
use Rattle.expression_laws.proofs.Places.{places_agree_by}
use Rattle.expression_laws.proofs.Withs.{HavePlaces, places_now}

pub expressions_agree_by : (U : Upgrade) (sound : ParametersAreSound U) (classes : ClassesAreWritten U) (K : Pledge) → FormedExpressionsAgreeBy U K
expressions_agree_by U sound classes K w p f g oracle net_oracle l k c T uses e start frames declarations opened readable placed agree can covers formed =
    expression_agrees U p f g oracle net_oracle l k c T uses declarations opened readable placed.leads agree sound classes K e w start
    (places_now U p f g oracle net_oracle l k c T uses K w frames start declarations readable placed) (stands_now U K w p f g frames) can covers formed

pub scalars_agree_by : (U : Upgrade) (sound : ParametersAreSound U) (classes : ClassesAreWritten U) (K : Pledge) → FormedScalarsAgreeBy U K
scalars_agree_by U sound classes K w p f g oracle net_oracle l k c T uses e start frames declarations opened readable placed agree can covers formed =
    plain_agrees U K (context_of U oracle p f l) e (type_at e) w (target.value_of (scope_of U.written c g k) net_oracle (exp_of T e) w.net) start
    (expressions_agree_by U sound classes K w p f g oracle net_oracle l k c T uses e start frames declarations opened readable placed agree can covers formed)

pub indexes_agree_by : (U : Upgrade) (sound : ParametersAreSound U) (classes : ClassesAreWritten U) (K : Pledge) → IndexesAgreeBy U K
indexes_agree_by U sound classes K w p f g oracle net_oracle l k c T uses ty a indexes start frames declarations opened readable placed agree can covers_array
    covers_indexes formed =
    let forms = both_true (has_elements (type_at a) ty) (are_longs (types_of indexes) && are_formed indexes) formed in
    let rest = both_true (are_longs (types_of indexes)) (are_formed indexes) forms.1 in
    let longs = all_long (types_of indexes) rest.0 in
    let have : HavePlaces U p f g oracle net_oracle l k c T uses K w =
    places_now U p f g oracle net_oracle l k c T uses K w frames start declarations readable placed in
    indexed_by U p f g oracle net_oracle l k c T uses declarations opened readable placed.leads K ty a indexes w start have.variables covers_array forms.0 can.0
    (indexes_agree U p f g oracle net_oracle l k c T uses declarations opened readable placed.leads agree sound classes K a 0 indexes w
    (from_none (types_of indexes) longs.1) longs.0 start have (stands_now U K w p f g frames) can.1 covers_indexes rest.1)

pub elements_agree_by : (U : Upgrade) (sound : ParametersAreSound U) (classes : ClassesAreWritten U) (K : Pledge) → ElementsAgreeBy U K
elements_agree_by U sound classes K w p f g oracle net_oracle l k c T uses ty a indexes start frames declarations opened readable placed agree can covers_array
    covers_indexes formed =
    element_agrees U K (context_of U oracle p f l) a ty indexes w
    (target.reach (scope_of U.written c g k) net_oracle false (exp_of T (typed ty (element a indexes))) w.net) start
    (indexes_agree_by U sound classes K w p f g oracle net_oracle l k c T uses ty a indexes start frames declarations opened readable placed agree can covers_array
    covers_indexes formed)

pub arrays_agree_by : (U : Upgrade) (K : Pledge) → ArraysAgreeBy U K
arrays_agree_by U K w p f g oracle net_oracle l k c T uses d rank (variable v qualified) start frames declarations readable placed covers =
    let both = both_true (uses.array v d) (uses.named v qualified) covers in
    array_agrees U K p f g oracle net_oracle l k c T declarations d rank v qualified (readable.arrays v d both.0) w start (uses.named v) both.1
    (λ a at. images_now U K w p f g (scope_of U.written c g k) refl refl T declarations frames uses start readable placed v a (inr (inl (d, both.0))) at)
arrays_agree_by U K w p f g oracle net_oracle l k c T uses d rank _ start frames declarations readable placed covers = absurd (cc covers)

pub groups_agree_by : (U : Upgrade) (sound : ParametersAreSound U) (classes : ClassesAreWritten U) (K : Pledge) → GroupsAgreeBy U K
groups_agree_by U sound classes K w p f g oracle net_oracle l k c T uses ty tm start frames declarations opened readable placed agree can covers formed =
    group_agrees U p f g oracle net_oracle l k c T uses declarations opened readable placed.leads agree sound classes K (typed ty tm) w start
    (places_now U p f g oracle net_oracle l k c T uses K w frames start declarations readable placed) (stands_now U K w p f g frames) can covers formed

pub indexes_agree_all : (U : Upgrade) → ParametersAreSound U → ClassesAreWritten U → IndexesAgree U
indexes_agree_all U sound classes K = indexes_agree_by U sound classes K

pub elements_agree : (U : Upgrade) → ParametersAreSound U → ClassesAreWritten U → ElementsAgree U
elements_agree U sound classes K = elements_agree_by U sound classes K

pub arrays_agree : (U : Upgrade) → ArraysAgree U
arrays_agree U K = arrays_agree_by U K

pub expressions_agree : (U : Upgrade) → ParametersAreSound U → ClassesAreWritten U → ExpressionsAgree U
expressions_agree U sound classes K = expressions_agree_by U sound classes K

pub scalars_agree : (U : Upgrade) → ParametersAreSound U → ClassesAreWritten U → FormedScalarsAgree U
scalars_agree U sound classes K = scalars_agree_by U sound classes K

pub groups_agree : (U : Upgrade) → ParametersAreSound U → ClassesAreWritten U → GroupsAgree U
groups_agree U sound classes K = groups_agree_by U sound classes K

pub places_agree : (U : Upgrade) → PlacesAgree U
places_agree U K = places_agree_by U K

pub members_agree : (U : Upgrade) → ClassesAreWritten U → MembersAgree U
members_agree U classes K = members_agree_by U classes K

pub objects_agree : (U : Upgrade) → ClassesAreWritten U → ObjectsAgree U
objects_agree U classes K = objects_agree_by U classes K

-- a covered call is made on both sides
pub calls_are_made : (U : Upgrade) → ParametersAreSound U → ClassesAreWritten U → CallsAreMade U
calls_are_made U sound classes K w p f g oracle net_oracle l k c T uses ty q qualified of args start frames declarations opened readable placed agree can
    gives receiver covers formed =
    let giving_one : is_giving (slice_get U.program.declarations.procs q.0) ≡ true = readable.gives q.0 gives in
    let C : Context = context_of U oracle p f l in
    let S : net_names.Scope = scope_of U.written c g k in
    agrees_weaker U K w (GivenMatch U can.0.number) AnyParts (source.term_parts C ty (call q qualified of args) w.src)
    (target.address_of S net_oracle (call_of (callee_of T q.0 qualified of) (passed_of T q.0 0 args)) w.net) (λ v x a l m. tt)
    (call_placed U p f g oracle net_oracle l k c T agree uses declarations readable opened classes K ty q qualified of args w start
    (places_now U p f g oracle net_oracle l k c T uses K w frames start declarations readable placed) (stands_now U K w p f g frames) can false
    (called_apart U S T q.0 qualified of args can.0.way can.0.is_way giving_one) receiver
    (λ v match there now asked.
    passed_agree U p f g oracle net_oracle l k c T uses declarations opened readable placed.leads agree sound classes (giving K (given_types args)) q.0 0
    can.0.passes args (passings_by U.written can.0.way can.0.number) v (from_first U p f g oracle net_oracle l k c T agree K can.0) can.0.suits can.0.hands can.0.quiet
    match there now asked covers formed can.0.ranks (λ t o. inr o)))

-- under the pledge of a frame

pub frame_expressions_agree : (U : Upgrade) (sound : ParametersAreSound U) (classes : ClassesAreWritten U) (p : ℕ) (w : World) (f : SourceFrame)
    → FormedExpressionsAgreeBy U (frame_pledge U p w f)
frame_expressions_agree U sound classes p w f = expressions_agree_by U sound classes (frame_pledge U p w f)

pub frame_scalars_agree : (U : Upgrade) (sound : ParametersAreSound U) (classes : ClassesAreWritten U) (p : ℕ) (w : World) (f : SourceFrame)
    → FormedScalarsAgreeBy U (frame_pledge U p w f)
frame_scalars_agree U sound classes p w f = scalars_agree_by U sound classes (frame_pledge U p w f)

pub frame_indexes_agree : (U : Upgrade) (sound : ParametersAreSound U) (classes : ClassesAreWritten U) (p : ℕ) (w : World) (f : SourceFrame)
    → IndexesAgreeBy U (frame_pledge U p w f)
frame_indexes_agree U sound classes p w f = indexes_agree_by U sound classes (frame_pledge U p w f)

pub frame_elements_agree : (U : Upgrade) (sound : ParametersAreSound U) (classes : ClassesAreWritten U) (p : ℕ) (w : World) (f : SourceFrame)
    → ElementsAgreeBy U (frame_pledge U p w f)
frame_elements_agree U sound classes p w f = elements_agree_by U sound classes (frame_pledge U p w f)

pub frame_arrays_agree : (U : Upgrade) (p : ℕ) (w : World) (f : SourceFrame) → ArraysAgreeBy U (frame_pledge U p w f)
frame_arrays_agree U p w f = arrays_agree_by U (frame_pledge U p w f)

pub frame_places_agree : (U : Upgrade) (p : ℕ) (w : World) (f : SourceFrame) → PlacesAgreeBy U (frame_pledge U p w f)
frame_places_agree U p w f = places_agree_by U (frame_pledge U p w f)

pub frame_members_agree : (U : Upgrade) (classes : ClassesAreWritten U) (p : ℕ) (w : World) (f : SourceFrame) → MembersAgreeBy U (frame_pledge U p w f)
frame_members_agree U classes p w f = members_agree_by U classes (frame_pledge U p w f)

pub frame_groups_agree : (U : Upgrade) (sound : ParametersAreSound U) (classes : ClassesAreWritten U) (p : ℕ) (w : World) (f : SourceFrame)
    → GroupsAgreeBy U (frame_pledge U p w f)
frame_groups_agree U sound classes p w f = groups_agree_by U sound classes (frame_pledge U p w f)

pub frame_objects_agree : (U : Upgrade) (classes : ClassesAreWritten U) (p : ℕ) (w : World) (f : SourceFrame) → ObjectsAgreeBy U (frame_pledge U p w f)
frame_objects_agree U classes p w f = objects_agree_by U classes (frame_pledge U p w f)
