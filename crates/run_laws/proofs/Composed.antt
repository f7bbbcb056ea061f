-- What the laws on runs need, by the laws on procedures, names, memories, expressions and lines.
use Rattle.std.proofs.Common.{◌≡◌, ℕ, suc, Bool, true, true≢false, Some, refl, sym, ap, subst, ◌∙◌}
use Rattle.run_base.specs.Machines.{nth_line}
use Rattle.run_matches.specs.Addresses.{images}
use Rattle.run_matches.specs.CleanLines.{or_none}
use Rattle.written_trees.specs.Bodies.{inside_procedure}
use Rattle.target_laws.proofs.Aims.{same_aims}
use Rattle.target_laws.proofs.Labels.{same_labels}
use Rattle.target_laws.proofs.Tests.{same_tests}
use Rattle.run_matches.specs.Upgrades.{Upgrade, home_of}
use Rattle.run_statements.specs.Frames.{ScalarsAreRead, type_shape}
use Rattle.run_statements.specs.Kept.{LinesAgree}
use Rattle.run_statements.specs.Objects.{ClassesAreWritten}
use Rattle.run_statements.specs.Written.{IsWritten, SameLines, SameRuns, site_scope}
use Rattle.placing_laws.proofs.Placing.{procedures_are_written}
use Rattle.placing_laws.proofs.Labels.{labels_are_found}
use Rattle.placing_laws.proofs.Lines.{lines_are_written, no_further_lines}
use Rattle.name_laws.proofs.Open.{names_are_open}
use Rattle.name_laws.proofs.OwnsKept.{owns_are_kept}
use Rattle.name_laws.proofs.Found.{callees_are_found, methods_are_found}
use Rattle.name_laws.proofs.Owns.{usable}
use Rattle.name_laws.proofs.Lines.{clean_lines_are_unreplaced, clean_line_is_unreplaced}
use Rattle.name_laws.proofs.Outward.{stores_are_own}
use Rattle.name_laws.proofs.Placed.{uses_are_placed}
use Rattle.name_laws.proofs.Uses.{clean_line_unbroken, clean_unbroken, line_uses_are_readable, uses_are_readable}
use Rattle.memory_laws.proofs.Reading.{variables_are_read}
use Rattle.memory_laws.proofs.Writing.{scalars_are_written}
use Rattle.memory_laws.proofs.Making.{locals_are_made}
use Rattle.memory_laws.proofs.Autos.{autos_are_set}
use Rattle.memory_laws.proofs.AutosMade.{autos_are_made, static_autos_are_laid}
use Rattle.memory_laws.proofs.ArraysMade.{arrays_are_made, static_arrays_are_laid}
use Rattle.memory_laws.proofs.Parameters.{values_are_made}
use Rattle.memory_laws.proofs.Groups.{groups_are_read}
use Rattle.memory_laws.proofs.GroupWriting.{groups_are_written}
use Rattle.memory_laws.proofs.Members.{members_are_found}
use Rattle.memory_laws.proofs.GroupsMade.{groups_are_given, groups_are_made}
use Rattle.memory_laws.proofs.StaticGroups.{static_groups_are_laid}
use Rattle.name_laws.proofs.ClassTypes.{ClassLed, class_home_is, class_leads, class_led, classes_are_found, autos_are_found}
use Rattle.name_laws.proofs.Fields.{fields_are_written}
use Rattle.name_laws.proofs.Initializers.{initializers_are_found, nothing_initializes}
use Rattle.name_laws.proofs.CoveredTypes.{is_unmade}
use Rattle.name_laws.proofs.SoundPoints.{owned_sound}
use Rattle.name_laws.proofs.TypeShapes.{user_type_same}
use Rattle.vb_tree.specs.BoundTree as types
use Rattle.vb_tree.specs.BoundTree.{Ty}
use Rattle.vb6_run.specs.Shapes.{simple}
use Rattle.net_run.specs.Shapes.{shape_of}
use Rattle.written_trees.specs.Types.{type_with}
use Rattle.run_matches.specs.CoveredVariables.{covers_group_type}
use Rattle.run_matches.specs.Likeness.{SameShape, same_class}
use Rattle.memory_laws.proofs.Elements.{elements_are_written}
use Rattle.memory_laws.proofs.Resizing.{arrays_are_erased, arrays_are_resized}
use Rattle.expression_laws.proofs.Agreements.{arrays_agree, calls_are_made, elements_agree, expressions_agree, groups_agree, indexes_agree_all, members_agree, objects_agree}
use Rattle.expression_laws.proofs.Setters.{properties_are_set, setters_agree}
use Rattle.expression_laws.specs.Statements.{ParametersAreSound}
use Rattle.run_laws.proofs.Firsts.{gets_are_first}
use Rattle.run_laws.proofs.SoundParameters.{parameters_are_sound}
use Rattle.line_laws.proofs.Lines.{lines_agree}
use Rattle.run_laws.specs.Premises.{GroupsAreWritten, LinePremises, ObjectsBegin, OwnedAreUsable, ResultsAreWritten, RunPremises}
use Rattle.run_laws.proofs.Lines as by_itself
use Rattle.run_matches.specs.Runs.{call_pledge}
use Rattle.run_laws.proofs.GivenClasses.{results_are_written}
use Rattle.run_laws.proofs.Runs.{makes_in_calls}
use Rattle.run_laws.proofs.Runs as whole

scalars_are_read : (U : Upgrade) → ScalarsAreRead U
scalars_are_read U K w a b ty covers h same at = variables_are_read U K w true a b ty covers h (images true a b same) at

owned_usable : (U : Upgrade) → IsWritten U → OwnedAreUsable U
owned_usable U w p v x clean e owned covers = usable U w v x e covers (owned_sound U.program U.facts.marks p v x clean e owned)

objects_begin : (U : Upgrade) → IsWritten U → ObjectsBegin U
objects_begin U w =
    record { found = classes_are_found U w; autos = autos_are_found U w; begins = initializers_are_found U w; nothing = nothing_initializes U w }

lines_do : (U : Upgrade) → IsWritten U → LinesAgree U
lines_do U w =
    let sound : ParametersAreSound U = parameters_are_sound U (owned_usable U w) in
    let classes : ClassesAreWritten U = fields_are_written U w in
    lines_agree U classes (expressions_agree U sound classes) (calls_are_made U sound classes) (scalars_are_read U) (scalars_are_written U)
    (elements_agree U sound classes) (indexes_agree_all U sound classes) (elements_are_written U) (groups_agree U sound classes) (groups_are_written U)
    (members_agree U classes) (members_are_found U) (objects_agree U classes) (setters_agree U sound classes) (properties_are_set U sound) (autos_are_set U)
    (arrays_agree U) (arrays_are_resized U) (arrays_are_erased U)

-- the name of a user type leads to its structure, and that of a class to the class
type_same : (U : Upgrade) → IsWritten U → (ty : Ty) (home file rank : ℕ) (qualified : Bool) → covers_group_type U.program.declarations ty ≡ true
    → home_of U file ≡ Some home
    → SameShape U (type_shape U ty) (shape_of U.written home (type_with U.program.declarations file qualified rank ty))
type_same U w (types.user t) home file rank qualified covers e = user_type_same U w home file t qualified covers e
type_same U w (types.class c) home file rank qualified covers e =
    let L : ClassLed U.program.declarations c = class_led U.program.declarations c covers in
    subst (λ d. SameShape U (simple (types.class c)) d) (sym (class_leads U c L w home)) (same_class c L.home (class_home_is U c L))
type_same U w _ home file rank qualified covers e = absurd (true≢false (sym covers))

types_are_written : (U : Upgrade) → IsWritten U → GroupsAreWritten U
types_are_written U w = record {
  shaped = type_same U w;
  unmade = λ t covers. is_unmade U w t covers;
  homes = w.homes;
}

classes_are_given : (U : Upgrade) → IsWritten U → ResultsAreWritten U
classes_are_given U w = results_are_written U (procedures_are_written U w) (owned_usable U w) (types_are_written U w) (gets_are_first U w.firsts)

run_premises : (U : Upgrade) → IsWritten U → RunPremises U
run_premises U w = record {
  procedures = procedures_are_written U w;
  lines = lines_are_written same_aims same_tests U w;
  no_further = no_further_lines U w;
  labels = labels_are_found same_labels U w;
  names = names_are_open U w;
  agree = lines_do U w;
  owns = owns_are_kept U w;
  unreplaced = clean_lines_are_unreplaced U w;
  readable = λ p s x site is W clean covered k line here. uses_are_readable U w p k line clean here (inside_procedure (site_scope U s) p) refl;
  fits = λ p k l clean here d m. w.fits p k l here (clean_unbroken U p k clean) d m;
  resizes = λ p k l clean here. w.resizes p k l here (clean_unbroken U p k clean);
  placed = uses_are_placed U w;
  stores = stores_are_own U w;
  owned = owned_usable U w;
  known = w.known;
  found = callees_are_found U w;
  methods = methods_are_found U w;
  results = classes_are_given U w;
  objects = objects_begin U w;
  makes =
      makes_in_calls U (locals_are_made U) (arrays_are_made U) (groups_are_made U) (autos_are_made U) (static_arrays_are_laid U)
      (static_groups_are_laid U) (static_autos_are_laid U) (values_are_made U) (groups_are_given U);
  ranked = w.dimensions;
  groups = types_are_written U w;
  read = λ p base me xs ys. groups_are_read U (call_pledge U p base me xs ys);
  firsts = gets_are_first U w.firsts;
}

line_premises : (U : Upgrade) → IsWritten U → LinePremises U
line_premises U w = record {
  procedures = procedures_are_written U w;
  lines = lines_are_written same_aims same_tests U w;
  names = names_are_open U w;
  agree = lines_do U w;
  unreplaced = λ p k s site clean covered. clean_line_is_unreplaced U w p s k site clean covered;
  readable = λ p k clean covered.
      line_uses_are_readable U w p (suc k) covered.line clean (ap (λ o. nth_line (or_none o) (suc k)) covered.are_lines ∙ covered.is_line)
      (inside_procedure (site_scope U covered.site) p) refl;
  fits = λ p k l clean here d m. w.fits p k l here (clean_line_unbroken U p k clean) d m;
  resizes = λ p k l clean here. w.resizes p k l here (clean_line_unbroken U p k clean);
  known = w.known;
  placed = uses_are_placed U w;
  stores = stores_are_own U w;
  found = callees_are_found U w;
  methods = methods_are_found U w;
  results = classes_are_given U w;
  objects = objects_begin U w;
  calls = whole.calls_agree U (run_premises U w);
}

-- clean procedures that are covered run the same
pub same_runs : (U : Upgrade) → IsWritten U → SameRuns U U.facts.marks
same_runs U w = whole.same_runs U (run_premises U w)

-- lines that are clean by themselves and covered do the same
pub same_lines : (U : Upgrade) → IsWritten U → SameLines U U.facts.marks
same_lines U w = by_itself.same_lines U (line_premises U w)
