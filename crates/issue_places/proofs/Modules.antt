-- The lines of a module stand in its file, and the files of a project's modules have the numbers of its entries.
use Rattle.std.proofs.Common.{◌≡◌, ℕ, ◌+◌, ◌<◌, ◌≤◌, List, [], ◌∷◌, length, codes, arith, sym, subst}
use Rattle.std.specs.List.{AllByRecursion as Each}
use Rattle.up_base.specs.declared.place.Place.{Place}
use Rattle.vb_tree.specs.declared.project.Entry.{Entry}
use Rattle.vb_tree.specs.declared.token.Line.{Line}
use Rattle.vb_tree.specs.declared.token.Token.{Token}
use Rattle.vb_tree.specs.FlatLines.{module_lines}
use Rattle.vb_tree.specs.Tree.{Form, else_line, end_if, goto, label, Module}
use Rattle.vb_tree.specs.Tree as tree
use Rattle.declaration_forms.specs.declared.starts.Spot.{Spot}
use Rattle.declaration_forms.specs.declared.starts.Spot.TheVariants as spot
use Rattle.vb_lines.specs.Forms.{FormAnswer, has_form, no_form, too_deep, HeadAnswer, has_head, no_head, deep_head}
use Rattle.vb_lines.specs.Modules.{AreRead, Head, ended, malformed, unended, head_of, IsModule, IsModuleOf, spot_of}
use Rattle.vb_lines.specs.Nesting.{Open, open_after}
use Rattle.vb_lines.specs.Parts.{Part, parts_at, parts_of, all_parts, Outcome, gives, formless, deep, piece_line, statement_outcome, head_outcome, label_of, token_line, StatementGives, LabelGives, HeadGives, CutGives}
use Rattle.vb_lines.specs.Statements.{Cut, label_cut, statement_cut, head_cut, jump_cut, else_cut, stray_cut, end_cut, line_cuts}
use Rattle.project_loader.specs.Held.{AreModules}
use Rattle.project_loader.specs.Modules.{TextIsModule}
use Rattle.project_loader.specs.Texts.{decoded}
use Rattle.issue_places.proofs.Each.{each_append, each_given}
use Rattle.issue_places.proofs.Readings.{HeadStands, TextStands, head_stands, text_stands}
use Rattle.issue_places.proofs.Standing.{InFile, LinesStand, ModulesStand}

-- ---- parts

abbrev PartsStand : (Place → Type 0) → List Part → Type 0
PartsStand F parts = Each (λ (p : Part). F p.place) parts

line_parts : (F : Place → Type 0) (place : Place) (text : List ℕ) (cuts : List Cut) → F place → PartsStand F (parts_at place text cuts)
line_parts F place text [] h = tt
line_parts F place text (c ∷ cuts) h = (h, line_parts F place text cuts h)

parts_stand : (F : Place → Type 0) (lines : List Line) → TextStands F lines → PartsStand F (all_parts lines)
parts_stand F [] h = tt
parts_stand F (l ∷ lines) h = each_append (λ (p : Part). F p.place) (parts_of l) (all_parts lines) (line_parts F l.place l.text (line_cuts l.tokens) h.0) (parts_stand F lines h.1)

-- ---- what parts give

abbrev OutcomeStands : (Place → Type 0) → Outcome → Type 0
OutcomeStands F (gives lines) = LinesStand F lines
OutcomeStands F formless = Unit {0}
OutcomeStands F (deep r) = Unit {0}

same_stands : (F : Place → Type 0) (o p : Outcome) → o ≡ p → OutcomeStands F p → OutcomeStands F o
same_stands F o p e h = subst (λ (q : Outcome). OutcomeStands F q) (sym e) h

statement_stands : (F : Place → Type 0) (at : Spot) (place : Place) (text : List ℕ) (tokens : List Token) (o : Outcome) → F place → StatementGives at place text tokens o → OutcomeStands F o
statement_stands F at place text tokens o h s = same_stands F o (statement_outcome at place text tokens s.0) s.2 (of_answer s.0)
  where
    of_answer : (a : FormAnswer) → OutcomeStands F (statement_outcome at place text tokens a)
    of_answer (has_form pieces) = each_given (λ (l : tree.Line). F l.place) (piece_line place text tokens) (λ p. h) pieces
    of_answer no_form = tt
    of_answer too_deep = tt

token_stands : (F : Place → Type 0) (place : Place) (text : List ℕ) (t : Token) (f : Form) (o : Outcome) → F place → o ≡ token_line place text t f → OutcomeStands F o
token_stands F place text t f o h e = same_stands F o (token_line place text t f) e (h, tt)

label_stands : (F : Place → Type 0) (at : Spot) (place : Place) (text : List ℕ) (t : Token) (o : Outcome) → F place → LabelGives at place text t o → OutcomeStands F o
label_stands F spot.Procedure place text t o h s = token_stands F place text t (label (label_of t.kind)) o h s
label_stands F spot.Module place text t o h s = statement_stands F spot.Module place text (t ∷ []) o h s
label_stands F spot.TypeGroup place text t o h s = statement_stands F spot.TypeGroup place text (t ∷ []) o h s
label_stands F spot.EnumGroup place text t o h s = statement_stands F spot.EnumGroup place text (t ∷ []) o h s

if_stands : (F : Place → Type 0) (at : Spot) (place : Place) (text : List ℕ) (tokens : List Token) (o : Outcome) → F place → HeadGives at place text tokens o → OutcomeStands F o
if_stands F at place text tokens o h s = same_stands F o (head_outcome place text tokens s.0) s.2 (of_answer s.0)
  where
    of_answer : (a : HeadAnswer) → OutcomeStands F (head_outcome place text tokens a)
    of_answer (has_head f) = (h, tt)
    of_answer no_head = tt
    of_answer deep_head = tt

cut_stands : (F : Place → Type 0) (at : Spot) (place : Place) (text : List ℕ) (c : Cut) (o : Outcome) → F place → CutGives at place text c o → OutcomeStands F o
cut_stands F at place text (label_cut t) o h s = label_stands F at place text t o h s
cut_stands F at place text (statement_cut tokens) o h s = statement_stands F at place text tokens o h s
cut_stands F at place text (head_cut tokens) o h s = if_stands F at place text tokens o h s
cut_stands F at place text (jump_cut t) o h s = token_stands F place text t (goto (label_of t.kind)) o h s
cut_stands F at place text (else_cut t) o h s = token_stands F place text t else_line o h s
cut_stands F at place text (stray_cut t) o h s = same_stands F o formless s tt
cut_stands F at place text end_cut o h s = same_stands F o (gives (record { place = place; text = codes "End If"; form = end_if } ∷ [])) s (h, tt)

read_stand : (F : Place → Type 0) (opens : List Open) (parts : List Part) (lines : List tree.Line) → PartsStand F parts → AreRead opens parts lines → LinesStand F lines
read_stand F opens [] lines h r = subst (λ (ls : List tree.Line). LinesStand F ls) (sym r) tt
read_stand F opens (p ∷ parts) lines h (new, more, given, right, rest, split) =
    subst (λ (ls : List tree.Line). LinesStand F ls) (sym split)
    (each_append (λ (l : tree.Line). F l.place) new more
    (cut_stands F (spot_of opens) p.place p.text p.cut (gives new) h.0 given)
    (read_stand F (open_after opens new) parts more h.1 rest))

-- ---- modules

of_body : (F : Place → Type 0) (entry : Entry) (number : ℕ) (body : List Line) (m : Module) → TextStands F body → IsModuleOf entry number body m → LinesStand F (module_lines m)
of_body F entry number body m h is =
    subst (λ (ls : List tree.Line). LinesStand F ls) (sym is.tree.in_order) (read_stand F [] (all_parts body) is.lines (parts_stand F body h) is.read)

of_head : (F : Place → Type 0) (entry : Entry) (number : ℕ) (head : Head) (m : Module) → HeadStands F head → IsModule entry number head m → LinesStand F (module_lines m)
of_head F entry number (ended body) m h is = of_body F entry number body m h is
of_head F entry number (malformed place) m h is = absurd is
of_head F entry number unended m h is = absurd is

pub module_stands : (F : Place → Type 0) (entry : Entry) (number : ℕ) (text : List ℕ) (m : Module) → InFile F number → TextIsModule entry number text m → LinesStand F (module_lines m)
module_stands F entry number text m h is =
    of_head F entry number (head_of entry.class is.lines) m
    (head_stands F entry.class is.lines (subst (λ (ls : List Line). TextStands F ls) is.lexed.before (text_stands F number h text)))
    is.is

-- modules that are numbered from k stand in files with numbers below n
pub modules_stand : (F : Place → Type 0) (n : ℕ) → ((file : ℕ) → file < n → InFile F file) → (k : ℕ) (entries : List Entry) (ms : List Module) → k + length entries ≤ n → AreModules k entries ms → ModulesStand F ms
modules_stand F n h k [] [] low are = tt
modules_stand F n h k [] (m ∷ ms) low are = absurd are
modules_stand F n h k (entry ∷ entries) [] low are = absurd are
modules_stand F n h k (entry ∷ entries) (m ∷ ms) low are = (
  module_stands F entry k (decoded are.0.0) m (h k (omega (arith, low))) are.0.1,
  modules_stand F n h (k + 1) entries ms (omega (arith, low)) are.1,
)
