-- The lines of a module have one answer.
use Rattle.std.proofs.Common.{◌≡◌, inl, inr, ℕ, List, [], ◌∷◌, ◌++◌, Option, Some, None, Result, Ok, Err, sym, ap, ◌∙◌, subst}
use Rattle.up_base.specs.declared.place.Fault.{Fault}
use Rattle.up_base.specs.declared.place.Place.{Place}
use Rattle.up_base.specs.declared.place.ReadFail.{ReadFail}
use Rattle.up_base.specs.declared.place.ReadFail.TheVariants as fail
use Rattle.vb_tree.specs.declared.module.Module6.{Module6}
use Rattle.vb_tree.specs.declared.project.Entry.{Entry}
use Rattle.vb_tree.specs.declared.token.Line.{Line}
use Rattle.vb_tree.specs.declared.token.Token.{Token}
use Rattle.vb_tree.specs.View.{module_of}
use Rattle.vb_tree.specs.Tree as tree
use Rattle.declaration_forms.specs.declared.starts.Spot.{Spot}
use Rattle.declaration_forms.specs.declared.starts.Spot.TheVariants as spot
use Rattle.vb_lines.specs.Laws.{IsSameAnswer}
use Rattle.vb_lines.specs.Modules.{spot_of, AreRead, HasFault, IsPartFault, IsUnclosed, IsFirstFault, IsModuleOf, Head, ended, malformed, unended, head_of, IsModule, IsModuleFault, IsAnswer, IsModuleAnswer}
use Rattle.vb_lines.specs.Nesting.{Open, open_after}
use Rattle.vb_lines.specs.Parts.{Part, all_parts, Outcome, gives, PartGives, CutGives, LabelGives, StatementGives, HeadGives, statement_outcome, head_outcome, lines_fault, outcome_fault}
use Rattle.vb_lines.specs.Statements.{Cut, label_cut, statement_cut, head_cut, jump_cut, else_cut, stray_cut, end_cut}
use Rattle.vb_lines.proofs.FormFacts.{forms_once, head_once}
use Rattle.vb_lines.proofs.OneTree.{members_once}

statement_once : (s : Spot) (place : Place) (text : List ℕ) (tokens : List Token) (o o' : Outcome) → StatementGives s place text tokens o → StatementGives s place text tokens o' → o ≡ o'
statement_once s place text tokens o o' g h = g.2 ∙ ap (statement_outcome s place text tokens) (forms_once s tokens g.0 h.0 g.1 h.1) ∙ sym h.2

head_given_once : (s : Spot) (place : Place) (text : List ℕ) (tokens : List Token) (o o' : Outcome) → HeadGives s place text tokens o → HeadGives s place text tokens o' → o ≡ o'
head_given_once s place text tokens o o' g h = g.2 ∙ ap (head_outcome place text tokens) (head_once s tokens g.0 h.0 g.1 h.1) ∙ sym h.2

label_once : (s : Spot) (place : Place) (text : List ℕ) (t : Token) (o o' : Outcome) → LabelGives s place text t o → LabelGives s place text t o' → o ≡ o'
label_once spot.Procedure place text t o o' g h = g ∙ sym h
label_once spot.Module place text t o o' g h = statement_once spot.Module place text (t ∷ []) o o' g h
label_once spot.TypeGroup place text t o o' g h = statement_once spot.TypeGroup place text (t ∷ []) o o' g h
label_once spot.EnumGroup place text t o o' g h = statement_once spot.EnumGroup place text (t ∷ []) o o' g h

cut_once : (s : Spot) (place : Place) (text : List ℕ) (c : Cut) (o o' : Outcome) → CutGives s place text c o → CutGives s place text c o' → o ≡ o'
cut_once s place text (label_cut t) o o' g h = label_once s place text t o o' g h
cut_once s place text (statement_cut tokens) o o' g h = statement_once s place text tokens o o' g h
cut_once s place text (head_cut tokens) o o' g h = head_given_once s place text tokens o o' g h
cut_once s place text (jump_cut t) o o' g h = g ∙ sym h
cut_once s place text (else_cut t) o o' g h = g ∙ sym h
cut_once s place text (stray_cut t) o o' g h = g ∙ sym h
cut_once s place text end_cut o o' g h = g ∙ sym h

same_lines : (ls ms : List tree.Line) → gives ls ≡ gives ms → ls ≡ ms
same_lines ls ms e = cc

new_once : (s : Spot) (p : Part) (ls ms : List tree.Line) → PartGives s p (gives ls) → PartGives s p (gives ms) → ls ≡ ms
new_once s p ls ms g h = same_lines ls ms (cut_once s p.place p.text p.cut (gives ls) (gives ms) g h)

read_once : (opens : List Open) (ps : List Part) (ls ms : List tree.Line) → AreRead opens ps ls → AreRead opens ps ms → ls ≡ ms
read_once opens [] ls ms h k = h ∙ sym k
read_once opens (p ∷ ps) ls ms h k =
    let new = new_once (spot_of opens) p h.0 k.0 h.2 k.2 in
    let more = read_once (open_after opens h.0) ps h.1 k.1 h.4 (subst (λ n. AreRead (open_after opens n) ps k.1) (sym new) k.4) in
    h.5 ∙ ap (λ n. n ++ h.1) new ∙ ap (λ n. k.0 ++ n) more ∙ sym k.5

right_or_fault : (opens : List Open) (p : Part) (ls : List tree.Line) (f : Fault) → PartGives (spot_of opens) p (gives ls) → lines_fault opens ls ≡ None → IsPartFault opens p f → ⊥
right_or_fault opens p ls f g e fault =
    let same = cut_once (spot_of opens) p.place p.text p.cut fault.outcome (gives ls) fault.given g in
    let some : lines_fault opens ls ≡ Some f.kind = ap (outcome_fault opens) (sym same) ∙ fault.kind in
    none_or_some (lines_fault opens ls) f.kind e some
  where
    none_or_some : (o : Option ℕ) (k : ℕ) → o ≡ None → o ≡ Some k → ⊥
    none_or_some o k e f = cc

read_or_fault : (opens : List Open) (ps : List Part) (ls : List tree.Line) (f : Fault) → AreRead opens ps ls → HasFault opens ps f → ⊥
read_or_fault opens [] ls f h k = k
read_or_fault opens (p ∷ ps) ls f h (inl fault) = right_or_fault opens p h.0 f h.2 h.3 fault
read_or_fault opens (p ∷ ps) ls f h (inr k) =
    let new = new_once (spot_of opens) p h.0 k.0 h.2 k.1 in
    read_or_fault (open_after opens h.0) ps h.1 f h.4 (subst (λ n. HasFault (open_after opens n) ps f) (sym new) k.3)

same_fault : (f g : Fault) → f.place ≡ g.place → f.kind ≡ g.kind → f ≡ g
same_fault f g p k = ap (λ x. record { place = x; kind = f.kind }) p ∙ ap (λ x. record { place = g.place; kind = x }) k

same_kind : (j k : ℕ) → Some j ≡ Some k → j ≡ k
same_kind j k e = cc

fault_once : (opens : List Open) (ps : List Part) (f g : Fault) → HasFault opens ps f → HasFault opens ps g → f ≡ g
fault_once opens [] f g h k = absurd h
fault_once opens (p ∷ ps) f g (inl h) (inl k) =
    let same = cut_once (spot_of opens) p.place p.text p.cut h.outcome k.outcome h.given k.given in
    same_fault f g (h.place ∙ sym k.place) (same_kind f.kind g.kind (sym h.kind ∙ ap (outcome_fault opens) same ∙ k.kind))
fault_once opens (p ∷ ps) f g (inl h) (inr k) = absurd (right_or_fault opens p k.0 f k.1 k.2 h)
fault_once opens (p ∷ ps) f g (inr h) (inl k) = absurd (right_or_fault opens p h.0 g h.1 h.2 k)
fault_once opens (p ∷ ps) f g (inr h) (inr k) =
    let new = new_once (spot_of opens) p h.0 k.0 h.1 k.1 in
    fault_once (open_after opens h.0) ps f g h.3 (subst (λ n. HasFault (open_after opens n) ps g) (sym new) k.3)

unclosed_once : (opens : List Open) (f g : Fault) → IsUnclosed opens f → IsUnclosed opens g → f ≡ g
unclosed_once [] f g h k = absurd h
unclosed_once (o ∷ opens) f g h k = same_fault f g (h.0 ∙ sym k.0) (h.1 ∙ sym k.1)

first_once : (ps : List Part) (f g : Fault) → IsFirstFault ps f → IsFirstFault ps g → f ≡ g
first_once ps f g (inl h) (inl k) = fault_once [] ps f g h k
first_once ps f g (inl h) (inr k) = absurd (read_or_fault [] ps k.0 f k.1 h)
first_once ps f g (inr h) (inl k) = absurd (read_or_fault [] ps h.0 g h.1 k)
first_once ps f g (inr h) (inr k) =
    let same = read_once [] ps h.0 k.0 h.1 k.1 in
    unclosed_once (open_after [] h.0) f g h.2 (subst (λ n. IsUnclosed (open_after [] n) g) (sym same) k.2)

module_or_fault : (entry : Entry) (file : ℕ) (body : List Line) (m : tree.Module) (f : Fault) → IsModuleOf entry file body m → IsFirstFault (all_parts body) f → ⊥
module_or_fault entry file body m f h (inl k) = read_or_fault [] (all_parts body) h.lines f h.read k
module_or_fault entry file body m f h (inr k) =
    let same = read_once [] (all_parts body) h.lines k.0 h.read k.1 in
    let closed : open_after [] k.0 ≡ [] = ap (open_after []) (sym same) ∙ h.closed in
    subst (λ os. IsUnclosed os f) closed k.2

module_once : (entry : Entry) (file : ℕ) (body : List Line) (m n : tree.Module) → IsModuleOf entry file body m → IsModuleOf entry file body n → m ≡ n
module_once entry file body m n h k =
    let same = read_once [] (all_parts body) h.lines k.lines h.read k.read in
    let members = members_once m.members n.members h.tree.nested k.tree.nested (h.tree.in_order ∙ same ∙ sym k.tree.in_order) in
    ap (λ x. record { file = x; name = m.name; class = m.class; members = m.members; comments = m.comments }) (h.file ∙ sym k.file)
    ∙ ap (λ x. record { file = n.file; name = x; class = m.class; members = m.members; comments = m.comments }) (h.name ∙ sym k.name)
    ∙ ap (λ x. record { file = n.file; name = n.name; class = x; members = m.members; comments = m.comments }) (h.class ∙ sym k.class)
    ∙ ap (λ x. record { file = n.file; name = n.name; class = n.class; members = x; comments = m.comments }) members
    ∙ ap (λ x. record { file = n.file; name = n.name; class = n.class; members = n.members; comments = x }) (h.comments ∙ sym k.comments)

-- a head is one module at most
pub head_module_once : (entry : Entry) (file : ℕ) (head : Head) (m n : tree.Module) → IsModule entry file head m → IsModule entry file head n → m ≡ n
head_module_once entry file (ended body) m n h k = module_once entry file body m n h k
head_module_once entry file (malformed place) m n h k = absurd h
head_module_once entry file unended m n h k = absurd h

-- a head has one first fault at most
pub head_fault_once : (file : ℕ) (head : Head) (f g : Fault) → IsModuleFault file head f → IsModuleFault file head g → f ≡ g
head_fault_once file (ended body) f g h k = first_once (all_parts body) f g h k
head_fault_once file (malformed place) f g h k = same_fault f g (h.0 ∙ sym k.0) (h.1 ∙ sym k.1)
head_fault_once file unended f g h k = same_fault f g (h.0 ∙ sym k.0) (h.1 ∙ sym k.1)

-- a head that is a module has no fault
pub head_module_or_fault : (entry : Entry) (file : ℕ) (head : Head) (m : tree.Module) (f : Fault) → IsModule entry file head m → IsModuleFault file head f → ⊥
head_module_or_fault entry file (ended body) m f h k = module_or_fault entry file body m f h k
head_module_or_fault entry file (malformed place) m f h k = h
head_module_or_fault entry file unended m f h k = h

answer_once : (entry : Entry) (file : ℕ) (head : Head) (a b : Result Module6 ReadFail) → IsAnswer entry file head a → IsAnswer entry file head b → IsSameAnswer a b
answer_once entry file head (Err fail.Mem) (Ok n) h k = tt
answer_once entry file head (Err fail.Mem) (Err (fail.Fault g)) h k = tt
answer_once entry file head (Err fail.Mem) (Err fail.Mem) h k = tt
answer_once entry file head (Ok m) (Err fail.Mem) h k = tt
answer_once entry file head (Err (fail.Fault f)) (Err fail.Mem) h k = tt
answer_once entry file head (Ok m) (Ok n) h k = head_module_once entry file head (module_of m) (module_of n) h k
answer_once entry file head (Ok m) (Err (fail.Fault g)) h k = head_module_or_fault entry file head (module_of m) g h k
answer_once entry file head (Err (fail.Fault f)) (Ok n) h k = head_module_or_fault entry file head (module_of n) f k h
answer_once entry file head (Err (fail.Fault f)) (Err (fail.Fault g)) h k = head_fault_once file head f g h k

pub one_answer : (entry : Entry) (file : ℕ) (lines : List Line) (a b : Result Module6 ReadFail) → IsModuleAnswer entry file lines a → IsModuleAnswer entry file lines b → IsSameAnswer a b
one_answer entry file lines a b h k = answer_once entry file (head_of entry.class lines) a b h k
