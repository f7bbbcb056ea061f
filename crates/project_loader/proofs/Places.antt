-- The faults of a module's file are of that file.
use Rattle.std.proofs.Common.{◌≡◌, inl, inr, ℕ, ◌+◌, Bool, true, false, ◌||◌, if◌then◌else◌, List, [], ◌∷◌, ◌++◌, map, codes, Option, Some, None, refl, sym, ap, ◌∙◌, subst}
use Rattle.up_base.specs.declared.place.Fault.{Fault}
use Rattle.up_base.specs.declared.place.Place.{Place}
use Rattle.vb_tree.specs.declared.block.BlockKind.{BlockKind}
use Rattle.vb_tree.specs.declared.block.BlockKind.TheVariants as block
use Rattle.vb_tree.specs.declared.block.Role.{Role}
use Rattle.vb_tree.specs.declared.block.Role.TheVariants.{Plain, Opens, Parts, Closes}
use Rattle.vb_tree.specs.declared.project.Entry.{Entry}
use Rattle.vb_tree.specs.declared.token.Line.{Line}
use Rattle.vb_tree.specs.declared.token.Token.{Token}
use Rattle.vb_tree.specs.Blocks.{role_of}
use Rattle.vb_tree.specs.LogicalLines.{Reading, fault_at, joint, joints, directive, content_from, first_fault_from, reading, readings_from, readings, first_fault, lines_before_fault, joined, physical_lines}
use Rattle.vb_tree.specs.Tree as tree
use Rattle.vb_lexer.specs.Answers.{Lexes}
use Rattle.vb_lines.specs.Forms.{PlainPiece, FormAnswer, has_form, no_form, too_deep, HeadAnswer, has_head, no_head, deep_head}
use Rattle.vb_lines.specs.Modules.{spot_in, spot_of, AreRead, HasFault, IsUnclosed, IsFirstFault, Head, ended, malformed, unended, is_one_word, begins_version, is_blank_line, is_setting, settings, begin_line, class_head, head_of, IsModuleFault}
use Rattle.vb_lines.specs.Nesting.{Open, outside, open_behind, open_after}
use Rattle.vb_lines.specs.Parts.{Part, parts_at, parts_of, all_parts, Outcome, gives, piece_line, statement_outcome, head_outcome, LabelGives, CutGives, PartGives}
use Rattle.vb_lines.specs.Statements.{Cut, label_cut, statement_cut, head_cut, jump_cut, else_cut, stray_cut, end_cut, line_cuts}
use Rattle.project_loader.specs.Modules.{TextFault, of_lines, before_lexical, lexical}

-- ---- logical lines

abbrev AreIn : ℕ → List Line → Type 0
AreIn n [] = Unit {0}
AreIn n (l ∷ ls) = (l.place.file ≡ n) × AreIn n ls

abbrev FaultIn : ℕ → Option Fault → Type 0
FaultIn n None = Unit {0}
FaultIn n (Some f) = f.place.file ≡ n

abbrev AreReadIn : ℕ → List Reading → Type 0
AreReadIn n [] = Unit {0}
AreReadIn n (r ∷ rs) = (r.line.place.file ≡ n) × FaultIn n r.fault × AreReadIn n rs

fault_from_in : (d stop : Option ℕ) (n line j at : ℕ) (units : List ℕ) → FaultIn n (first_fault_from d stop n line j at units)
fault_from_in d stop n line j at [] = tt
fault_from_in d stop n line j at (c ∷ cs) =
    elim (fault_at d stop j at c) as (λ o. FaultIn n (elim o [ Some kind ↦ Some (record { place = record { file = n; line = line + j }; kind = kind }) | None ↦ first_fault_from d stop n line (j + joint c) (at + 1) cs ])) [
      | Some kind ↦ refl
      | None ↦ fault_from_in d stop n line (j + joint c) (at + 1) cs
    ]

reading_in : (n number : ℕ) (units : List ℕ) → ((reading n number units).line.place.file ≡ n) × FaultIn n (reading n number units).fault
unfolding reading
reading_in n number units =
    let content = content_from [] number 0 0 units in
    (refl, fault_from_in (directive content.tokens) content.stop n number 0 0 units)

readings_from_in : (n number : ℕ) (lines : List (List ℕ)) → AreReadIn n (readings_from n number lines)
readings_from_in n number [] = tt
readings_from_in n number (units ∷ lines) =
    let one = reading_in n number units in
    (one.0, one.1, readings_from_in n (number + 1 + joints units) lines)

readings_in : (n : ℕ) (text : List ℕ) → AreReadIn n (readings n text)
unfolding readings
readings_in n text = readings_from_in n 1 (joined (physical_lines text))

before_in : (n : ℕ) (rs : List Reading) → AreReadIn n rs → AreIn n (lines_before_fault rs)
before_in n [] h = tt
before_in n (r ∷ rs) h =
    elim r.fault as (λ o. AreIn n (elim o [ Some fault ↦ [] | None ↦ r.line ∷ lines_before_fault rs ])) [
      | Some fault ↦ tt
      | None ↦ (h.0, before_in n rs h.2)
    ]

first_in : (n : ℕ) (rs : List Reading) → AreReadIn n rs → FaultIn n (first_fault rs)
first_in n [] h = tt
first_in n (r ∷ rs) h = by r.fault h.1 (first_in n rs h.2)
  where
    by : (o : Option Fault) → FaultIn n o → FaultIn n (first_fault rs) → FaultIn n (elim o [ Some fault ↦ Some fault | None ↦ first_fault rs ])
    by (Some fault) k more = k
    by None k more = more

lexed_in : (n : ℕ) (text : List ℕ) (o : Option Fault) (lines : List Line) → Lexes n text o lines → AreIn n lines
lexed_in n text o lines h = subst (AreIn n) h.before (before_in n (readings n text) (readings_in n text))

lexical_in : (n : ℕ) (text : List ℕ) (f : Fault) (lines : List Line) → Lexes n text (Some f) lines → f.place.file ≡ n
lexical_in n text f lines h = subst (FaultIn n) h.first (first_in n (readings n text) (readings_in n text))

-- ---- the head of a class file

abbrev HeadIn : ℕ → Head → Type 0
HeadIn n (ended body) = AreIn n body
HeadIn n (malformed place) = place.file ≡ n
HeadIn n unended = Unit {0}

if_in : (n : ℕ) (b : Bool) (x y : Head) → HeadIn n x → HeadIn n y → HeadIn n (if b then x else y)
if_in n true x y h k = h
if_in n false x y h k = k

settings_in : (n : ℕ) (lines : List Line) → AreIn n lines → HeadIn n (settings lines)
settings_in n [] h = tt
settings_in n (l ∷ lines) h =
    let goes_on = is_blank_line l || is_setting l.tokens in
    if_in n (is_one_word (codes "end") l.tokens) (ended lines) (if goes_on then settings lines else malformed l.place) h.1
    (if_in n goes_on (settings lines) (malformed l.place) (settings_in n lines h.1) h.0)

begin_in : (n : ℕ) (lines : List Line) → AreIn n lines → HeadIn n (begin_line lines)
begin_in n [] h = tt
begin_in n (l ∷ lines) h =
    if_in n (is_one_word (codes "begin") l.tokens) (settings lines) (if is_blank_line l then begin_line lines else malformed l.place) (settings_in n lines h.1)
    (if_in n (is_blank_line l) (begin_line lines) (malformed l.place) (begin_in n lines h.1) h.0)

class_in : (n : ℕ) (lines : List Line) → AreIn n lines → HeadIn n (class_head lines)
class_in n [] h = tt
class_in n (l ∷ lines) h =
    if_in n (begins_version l.tokens) (begin_line lines) (if is_blank_line l then class_head lines else malformed l.place) (begin_in n lines h.1)
    (if_in n (is_blank_line l) (class_head lines) (malformed l.place) (class_in n lines h.1) h.0)

head_in : (n : ℕ) (class : Bool) (lines : List Line) → AreIn n lines → HeadIn n (head_of class lines)
head_in n class lines h = if_in n class (class_head lines) (ended lines) (class_in n lines h) h

-- ---- the parts of lines

abbrev PartsIn : ℕ → List Part → Type 0
PartsIn n [] = Unit {0}
PartsIn n (p ∷ ps) = (p.place.file ≡ n) × PartsIn n ps

parts_append : (n : ℕ) (ps qs : List Part) → PartsIn n ps → PartsIn n qs → PartsIn n (ps ++ qs)
parts_append n [] qs h k = k
parts_append n (p ∷ ps) qs h k = (h.0, parts_append n ps qs h.1 k)

parts_at_in : (n : ℕ) (place : Place) (text : List ℕ) (cuts : List Cut) → place.file ≡ n → PartsIn n (parts_at place text cuts)
parts_at_in n place text [] e = tt
parts_at_in n place text (c ∷ cuts) e = (e, parts_at_in n place text cuts e)

all_parts_in : (n : ℕ) (lines : List Line) → AreIn n lines → PartsIn n (all_parts lines)
all_parts_in n [] h = tt
all_parts_in n (l ∷ lines) h = parts_append n (parts_of l) (all_parts lines) (parts_at_in n l.place l.text (line_cuts l.tokens) h.0) (all_parts_in n lines h.1)

-- ---- the code lines that parts give

abbrev GivenIn : ℕ → List tree.Line → Type 0
GivenIn n [] = Unit {0}
GivenIn n (l ∷ ls) = (l.place.file ≡ n) × GivenIn n ls

abbrev OutcomeIn : ℕ → Outcome → Type 0
OutcomeIn n (gives ls) = GivenIn n ls
OutcomeIn n _ = Unit {0}

pieces_in : (n : ℕ) (place : Place) (text : List ℕ) (tokens : List Token) (pieces : List PlainPiece) → place.file ≡ n → GivenIn n (map (piece_line place text tokens) pieces)
pieces_in n place text tokens [] e = tt
pieces_in n place text tokens (p ∷ pieces) e = (e, pieces_in n place text tokens pieces e)

statement_outcome_in : (s : _) (n : ℕ) (place : Place) (text : List ℕ) (tokens : List Token) (a : FormAnswer) → place.file ≡ n → OutcomeIn n (statement_outcome s place text tokens a)
statement_outcome_in s n place text tokens (has_form pieces) e = pieces_in n place text tokens pieces e
statement_outcome_in s n place text tokens no_form e = tt
statement_outcome_in s n place text tokens too_deep e = tt

head_outcome_in : (n : ℕ) (place : Place) (text : List ℕ) (tokens : List Token) (a : HeadAnswer) → place.file ≡ n → OutcomeIn n (head_outcome place text tokens a)
head_outcome_in n place text tokens (has_head form) e = (e, tt)
head_outcome_in n place text tokens no_head e = tt
head_outcome_in n place text tokens deep_head e = tt

statement_in : (s : _) (n : ℕ) (place : Place) (text : List ℕ) (tokens : List Token) (a : FormAnswer) (o : Outcome) → place.file ≡ n → o ≡ statement_outcome s place text tokens a → OutcomeIn n o
statement_in s n place text tokens a o e g = subst (OutcomeIn n) (sym g) (statement_outcome_in s n place text tokens a e)

-- by the block that the line stands in
inner_label_in : (n : ℕ) (k : BlockKind) (place : Place) (text : List ℕ) (t : Token) (o : Outcome) → place.file ≡ n → LabelGives (spot_in k) place text t o → OutcomeIn n o
inner_label_in n block.Type place text t o e g = statement_in (spot_in block.Type) n place text (t ∷ []) g.0 o e g.2
inner_label_in n block.Enum place text t o e g = statement_in (spot_in block.Enum) n place text (t ∷ []) g.0 o e g.2
inner_label_in n block.Sub place text t o e g = subst (OutcomeIn n) (sym g) (e, tt)
inner_label_in n block.Function place text t o e g = subst (OutcomeIn n) (sym g) (e, tt)
inner_label_in n block.Property place text t o e g = subst (OutcomeIn n) (sym g) (e, tt)
inner_label_in n block.If place text t o e g = subst (OutcomeIn n) (sym g) (e, tt)
inner_label_in n block.Select place text t o e g = subst (OutcomeIn n) (sym g) (e, tt)
inner_label_in n block.For place text t o e g = subst (OutcomeIn n) (sym g) (e, tt)
inner_label_in n block.Do place text t o e g = subst (OutcomeIn n) (sym g) (e, tt)
inner_label_in n block.While place text t o e g = subst (OutcomeIn n) (sym g) (e, tt)
inner_label_in n block.With place text t o e g = subst (OutcomeIn n) (sym g) (e, tt)

label_in : (n : ℕ) (opens : List Open) (place : Place) (text : List ℕ) (t : Token) (o : Outcome) → place.file ≡ n → LabelGives (spot_of opens) place text t o → OutcomeIn n o
label_in n [] place text t o e g = statement_in (spot_of []) n place text (t ∷ []) g.0 o e g.2
label_in n (x ∷ opens) place text t o e g = inner_label_in n x.kind place text t o e g

cut_in : (n : ℕ) (opens : List Open) (place : Place) (text : List ℕ) (c : Cut) (o : Outcome) → place.file ≡ n → CutGives (spot_of opens) place text c o → OutcomeIn n o
cut_in n opens place text (label_cut t) o e g = label_in n opens place text t o e g
cut_in n opens place text (statement_cut tokens) o e g = statement_in (spot_of opens) n place text tokens g.0 o e g.2
cut_in n opens place text (head_cut tokens) o e g = subst (OutcomeIn n) (sym g.2) (head_outcome_in n place text tokens g.0 e)
cut_in n opens place text (jump_cut t) o e g = subst (OutcomeIn n) (sym g) (e, tt)
cut_in n opens place text (else_cut t) o e g = subst (OutcomeIn n) (sym g) (e, tt)
cut_in n opens place text (stray_cut t) o e g = subst (OutcomeIn n) (sym g) tt
cut_in n opens place text end_cut o e g = subst (OutcomeIn n) (sym g) (e, tt)

-- ---- open blocks

abbrev OpensIn : ℕ → List Open → Type 0
OpensIn n [] = Unit {0}
OpensIn n (o ∷ opens) = (o.head.place.file ≡ n) × OpensIn n opens

outside_in : (n : ℕ) (opens : List Open) → OpensIn n opens → OpensIn n (outside opens)
outside_in n [] h = tt
outside_in n (o ∷ opens) h = h.1

open_behind_in : (n : ℕ) (r : Role) (l : tree.Line) (opens : List Open) → l.place.file ≡ n → OpensIn n opens → OpensIn n (open_behind r l opens)
open_behind_in n Plain l opens e h = h
open_behind_in n (Opens k) l opens e h = (e, h)
open_behind_in n (Parts k) l opens e h = h
open_behind_in n (Closes k) l opens e h = outside_in n opens h

open_after_in : (n : ℕ) (opens : List Open) (ls : List tree.Line) → OpensIn n opens → GivenIn n ls → OpensIn n (open_after opens ls)
open_after_in n opens [] h k = h
open_after_in n opens (l ∷ ls) h k = open_after_in n (open_behind (role_of l.form) l opens) ls (open_behind_in n (role_of l.form) l opens k.0 h) k.1

open_after_both : (opens : List Open) (ls ms : List tree.Line) → open_after opens (ls ++ ms) ≡ open_after (open_after opens ls) ms
open_after_both opens [] ms = refl
open_after_both opens (l ∷ ls) ms = open_after_both (open_behind (role_of l.form) l opens) ls ms

part_opens_in : (n : ℕ) (opens : List Open) (p : Part) (new : List tree.Line) → OpensIn n opens → p.place.file ≡ n → PartGives (spot_of opens) p (gives new) → OpensIn n (open_after opens new)
part_opens_in n opens p new h e g = open_after_in n opens new h (cut_in n opens p.place p.text p.cut (gives new) e g)

read_in : (n : ℕ) (opens : List Open) (ps : List Part) (ls : List tree.Line) → OpensIn n opens → PartsIn n ps → AreRead opens ps ls → OpensIn n (open_after opens ls)
read_in n opens [] ls h k r = subst (λ x. OpensIn n (open_after opens x)) (sym r) h
read_in n opens (p ∷ ps) ls h k r =
    let more = read_in n (open_after opens r.0) ps r.1 (part_opens_in n opens p r.0 h k.0 r.2) k.1 r.4 in
    subst (λ x. OpensIn n (open_after opens x)) (sym r.5) (subst (OpensIn n) (sym (open_after_both opens r.0 r.1)) more)

-- ---- faults

part_fault_in : (n : ℕ) (opens : List Open) (ps : List Part) (f : Fault) → PartsIn n ps → HasFault opens ps f → f.place.file ≡ n
part_fault_in n opens [] f k h = absurd h
part_fault_in n opens (p ∷ ps) f k (inl h) = ap (λ x. x.file) h.place ∙ k.0
part_fault_in n opens (p ∷ ps) f k (inr h) = part_fault_in n (open_after opens h.0) ps f k.1 h.3

unclosed_in : (n : ℕ) (opens : List Open) (f : Fault) → OpensIn n opens → IsUnclosed opens f → f.place.file ≡ n
unclosed_in n [] f h k = absurd k
unclosed_in n (o ∷ opens) f h k = ap (λ x. x.file) k.0 ∙ h.0

first_fault_in : (n : ℕ) (ps : List Part) (f : Fault) → PartsIn n ps → IsFirstFault ps f → f.place.file ≡ n
first_fault_in n ps f k (inl h) = part_fault_in n [] ps f k h
first_fault_in n ps f k (inr h) = unclosed_in n (open_after [] h.0) f (read_in n [] ps h.0 tt k h.1) h.2

head_fault_in : (n : ℕ) (head : Head) (f : Fault) → HeadIn n head → IsModuleFault n head f → f.place.file ≡ n
head_fault_in n (ended body) f h k = first_fault_in n (all_parts body) f (all_parts_in n body h) k
head_fault_in n (malformed place) f h k = ap (λ x. x.file) k.0 ∙ h
head_fault_in n unended f h k = ap (λ x. x.file) k.0

-- the first fault of a module's text is one of its file
pub text_fault_in : (entry : Entry) (n : ℕ) (text : List ℕ) (f : Fault) → TextFault entry n text f → f.place.file ≡ n
text_fault_in entry n text f (of_lines lines lexed fault) = head_fault_in n (head_of entry.class lines) f (head_in n entry.class lines (lexed_in n text None lines lexed)) fault
text_fault_in entry n text f (before_lexical l lines lexed fault other) = head_fault_in n (head_of entry.class lines) f (head_in n entry.class lines (lexed_in n text (Some l) lines lexed)) fault
text_fault_in entry n text f (lexical lines lexed none) = lexical_in n text f lines lexed
