-- Parts that are taken one after the other, and the module that comes of them.
use Rattle.std.proofs.Common.{◌≡◌, inl, inr, ℕ, List, [], ◌∷◌, ◌++◌, map, reverse, length, Option, Some, None, Result, Ok, Err, refl, sym, ap, ◌∙◌, subst, append_assoc, All, take, drop, get_or, ◌-◌, ◌≤◌, arith, IsErrAnd}
use Rattle.std.specs.List.{flat_map}
use Rattle.std.proofs.lemmas.List.{append-nil, reverse-reverse, take_all}
use Rattle.up_base.specs.declared.place.Fault.{Fault}
use Rattle.up_base.specs.declared.place.Place.{Place}
use Rattle.up_base.specs.declared.place.ReadFail.{ReadFail}
use Rattle.up_base.specs.declared.place.ReadFail.TheVariants as fail
use Rattle.vb_tree.specs.declared.project.Entry.{Entry}
use Rattle.vb_tree.specs.declared.module.Module6.{Module6}
use Rattle.vb_tree.specs.declared.module.Member6.{Member6}
use Rattle.vb_tree.specs.declared.token.Line.{Line}
use Rattle.vb_tree.specs.FlatLines.{member_lines}
use Rattle.vb_tree.specs.ModuleTree.{IsNested}
use Rattle.vb_tree.specs.View.{member_of, module_of}
use Rattle.vb_tree.specs.Tree as tree
use Rattle.vb_lines.specs.declared.building.ModuleBuild.{ModuleBuild}
use Rattle.vb_lines.specs.declared.building.OpenGroup.{OpenGroup}
use Rattle.vb_lines.specs.declared.frame.Frame.{Frame}
use Rattle.vb_lines.specs.Answers.{unclosed_place}
use Rattle.vb_lines.specs.Building.{OnFault, IsBuilt, AreBuilt, opens_of, opens_in, frame_open, frame_lines}
use Rattle.vb_lines.specs.Modules.{IsUnclosed, IsFirstFault, IsModuleOf, comments_of, IsAnswer, ended}
use Rattle.vb_lines.specs.Nesting.{Open, open_after}
use Rattle.vb_lines.specs.Parts.{Part, CutGives, parts_at, parts_of, all_parts}
use Rattle.vb_lines.specs.Statements as plain
use Rattle.vb_lines.specs.Cuts.{cut_of, cuts_of}
use Rattle.vb_lines.specs.declared.cuts.Cut.{Cut}
use Rattle.vb_lines.specs.Reading.{AddsGiven, FaultOfGiven, AddsParts, FaultOfParts, HasTaken}
use Rattle.vb_lines.proofs.Readings.{no_parts, parts_then_parts, parts_then_fault, fault_before_parts, part_of_given, fault_of_given}

pub nothing_taken : (parts : List Part) (b : ModuleBuild) → HasTaken parts b b parts
nothing_taken parts b = record { front = []; cut = refl; adds = no_parts b }

pub more_taken : (parts ps left : List Part) (old b c : ModuleBuild) → HasTaken parts old b (ps ++ left) → AddsParts ps b c → HasTaken parts old c left
more_taken parts ps left old b c taken adds = record {
  front = taken.front ++ ps;
  cut = taken.cut ∙ sym (append_assoc taken.front ps left);
  adds = parts_then_parts taken.front ps old b c taken.adds adds;
}

pub all_taken : (parts : List Part) (old b : ModuleBuild) → HasTaken parts old b [] → AddsParts parts old b
all_taken parts old b taken = subst (λ ps. AddsParts ps old b) (sym (taken.cut ∙ append-nil taken.front)) taken.adds

pub taken_fault : (parts ps left : List Part) (old b : ModuleBuild) (f : Fault) → HasTaken parts old b (ps ++ left) → FaultOfParts ps b f → FaultOfParts parts old f
taken_fault parts ps left old b f taken fault =
    subst (λ qs. FaultOfParts qs old f) (append_assoc taken.front ps left ∙ sym taken.cut)
    (fault_before_parts (taken.front ++ ps) left old f (parts_then_fault taken.front ps old b f taken.adds fault))

-- ---- the whole

pub module_fault : (parts : List Part) (b : ModuleBuild) (f : Fault) → IsBuilt [] b → FaultOfParts parts b f → IsFirstFault parts f
module_fault parts b f built fault = inl (fault.fault [] built)

nothing_open : (opens : List Open) → unclosed_place opens ≡ None → opens ≡ []
nothing_open [] e = refl
nothing_open (o ∷ opens) e = absurd cc

still_open : (opens : List Open) (place : Place) → unclosed_place opens ≡ Some place → IsUnclosed opens (record { place = place; kind = 12 })
still_open [] place e = absurd cc
still_open (o ∷ opens) place e = (cc, refl)

pub unclosed_fault : (parts : List Part) (old b : ModuleBuild) (place : Place) → IsBuilt [] old → AddsParts parts old b → unclosed_place (opens_of b) ≡ Some place → IsFirstFault parts (record { place = place; kind = 12 })
unclosed_fault parts old b place built adds e =
    let all = adds.adds [] built in
    inr (all.0, all.1, still_open (open_after [] all.0) place (ap unclosed_place (sym all.2.opened) ∙ e))

no_frames : (frames : List Frame) → reverse (map frame_open frames) ≡ [] → frames ≡ []
no_frames [] e = refl
no_frames (f ∷ frames) e = let nil : frame_open f ∷ map frame_open frames ≡ [] = sym (reverse-reverse (map frame_open (f ∷ frames))) ∙ ap reverse e in absurd cc

closed_lines : (ms : List Member6) (g : Option OpenGroup) (frames : List Frame) (lines : List tree.Line) → opens_in g frames ≡ [] → AreBuilt lines ms g frames → flat_map member_lines (map member_of ms) ≡ lines
closed_lines ms (Some g) frames lines e built = absurd cc
closed_lines ms None frames lines e built =
    let none = no_frames frames e in
    sym (append-nil (flat_map member_lines (map member_of ms))) ∙ sym (ap (λ fs. flat_map member_lines (map member_of ms) ++ flat_map frame_lines fs) none) ∙ built.in_order

pub module_read : (entry : Entry) (file : ℕ) (body : List Line) (old b : ModuleBuild) (m : Module6) → IsBuilt [] old → AddsParts (all_parts body) old b → unclosed_place (opens_of b) ≡ None → m.file ≡ file → m.name ≡ entry.name → m.class ≡ entry.class → m.comments ≡ comments_of body → m.members ≡ b.members → IsModuleOf entry file body (module_of m)
module_read entry file body old b m built adds e is_file is_name is_class comments members =
    let all = adds.adds [] built in
    let none = nothing_open (opens_of b) e in
    record {
      file = is_file;
      name = is_name;
      class = is_class;
      comments = comments;
      lines = all.0;
      read = all.1;
      closed = sym all.2.opened ∙ none;
      tree = record {
        in_order = ap (λ ms. flat_map member_lines (map member_of ms)) members ∙ closed_lines b.members b.group b.frames.items all.0 none all.2;
        nested = subst (λ ms. All IsNested (map member_of ms)) (sym members) all.2.whole;
      };
    }

-- ---- what is left of a list

whole_tail : {X : Type 0} (xs : List X) (n : ℕ) → n ≡ length xs → take n xs ≡ xs
whole_tail xs n e = take_all n xs (omega arith)

pub first_left : {X : Type 0} (rest : List X) (x : X) → 1 ≤ length rest → x ≡ get_or rest 0 x → rest ≡ x ∷ take (length rest - 1) (drop 1 rest)
first_left [] x h e = absurd (omega arith)
first_left (y ∷ ys) x h e = ap (λ z. z ∷ ys) (sym e) ∙ ap (λ zs. x ∷ zs) (sym (whole_tail ys (length (y ∷ ys) - 1) (omega arith)))

pub lines_more : (lines rest after : List Line) (x : Line) (old b c : ModuleBuild) → rest ≡ x ∷ after → HasTaken (all_parts lines) old b (all_parts rest) → AddsParts (parts_of x) b c → HasTaken (all_parts lines) old c (all_parts after)
lines_more lines rest after x old b c e taken adds = more_taken (all_parts lines) (parts_of x) (all_parts after) old b c (subst (λ r. HasTaken (all_parts lines) old b (all_parts r)) e taken) adds

pub lines_fault_taken : (lines rest after : List Line) (x : Line) (old b : ModuleBuild) (f : Fault) → rest ≡ x ∷ after → HasTaken (all_parts lines) old b (all_parts rest) → FaultOfParts (parts_of x) b f → FaultOfParts (all_parts lines) old f
lines_fault_taken lines rest after x old b f e taken fault = taken_fault (all_parts lines) (parts_of x) (all_parts after) old b f (subst (λ r. HasTaken (all_parts lines) old b (all_parts r)) e taken) fault

abbrev parts_in : Place → List ℕ → List Cut → List Part
parts_in place text cuts = parts_at place text (cuts_of cuts)

pub cuts_more : (place : Place) (text : List ℕ) (cuts rest after : List Cut) (x : Cut) (old b c : ModuleBuild) → rest ≡ x ∷ after → HasTaken (parts_in place text cuts) old b (parts_in place text rest) → AddsParts (record { place = place; text = text; cut = cut_of x } ∷ []) b c → HasTaken (parts_in place text cuts) old c (parts_in place text after)
cuts_more place text cuts rest after x old b c e taken adds = more_taken (parts_in place text cuts) (record { place = place; text = text; cut = cut_of x } ∷ []) (parts_in place text after) old b c (subst (λ r. HasTaken (parts_in place text cuts) old b (parts_in place text r)) e taken) adds

pub cuts_fault_taken : (place : Place) (text : List ℕ) (cuts rest after : List Cut) (x : Cut) (old b : ModuleBuild) (f : Fault) → rest ≡ x ∷ after → HasTaken (parts_in place text cuts) old b (parts_in place text rest) → FaultOfParts (record { place = place; text = text; cut = cut_of x } ∷ []) b f → FaultOfParts (parts_in place text cuts) old f
cuts_fault_taken place text cuts rest after x old b f e taken fault = taken_fault (parts_in place text cuts) (record { place = place; text = text; cut = cut_of x } ∷ []) (parts_in place text after) old b f (subst (λ r. HasTaken (parts_in place text cuts) old b (parts_in place text r)) e taken) fault

-- ---- the answer of a fault that is passed on

pub fault_answered : (entry : Entry) (file : ℕ) (body : List Line) (e : ReadFail) (result : Result Module6 ReadFail) → IsErrAnd result (λ x. x ≡ e) → OnFault result (IsFirstFault (all_parts body)) → IsAnswer entry file (ended body) result
fault_answered entry file body e (Ok m) s h = absurd s
fault_answered entry file body e (Err (fail.Fault f)) s h = h
fault_answered entry file body e (Err fail.Mem) s h = tt

-- ---- a part of the code

pub part_added : (place : Place) (text : List ℕ) (c c' : plain.Cut) (old b : ModuleBuild) → c ≡ c' → AddsGiven (λ s o. CutGives s place text c' o) old b → AddsParts (record { place = place; text = text; cut = c } ∷ []) old b
part_added place text c c' old b e given = subst (λ x. AddsParts (record { place = place; text = text; cut = x } ∷ []) old b) (sym e) (part_of_given (record { place = place; text = text; cut = c' }) old b given)

pub part_fault : (place : Place) (text : List ℕ) (c c' : plain.Cut) (old : ModuleBuild) (f : Fault) → c ≡ c' → FaultOfGiven (λ s o. CutGives s place text c' o) place old f → FaultOfParts (record { place = place; text = text; cut = c } ∷ []) old f
part_fault place text c c' old f e given = subst (λ x. FaultOfParts (record { place = place; text = text; cut = x } ∷ []) old f) (sym e) (fault_of_given (record { place = place; text = text; cut = c' }) old f given)
