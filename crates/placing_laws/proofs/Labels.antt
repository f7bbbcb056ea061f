-- Jumps of a procedure find their labels at the same lines, if none of its lines is replaced.
use Rattle.std.proofs.Common.{◌≡◌, ℕ, zero, suc, pos, negsuc, Bool, true, false, not, cond, List, [], ◌∷◌, map, Option, Some, None, refl, ap, ◌∙◌, subst, true≢false}
use Rattle.std.specs.Prelude.{is_some, slice_get, zip}
use Rattle.std.specs.List.{list_all}
use Rattle.up_base.proofs.Lists.{all_first, all_more, all_rest}
use Rattle.vb_tree.specs.Blocks.{is_code}
use Rattle.vb_tree.specs.declared.form_parts.Label6.{Label6}
use Rattle.vb_tree.specs.FlatLines.{code_lines}
use Rattle.vb_tree.specs.Tree.{Form}
use Rattle.vb_tree.specs.Tree as source
use Rattle.bound_tree.specs.declared.rule_set.RuleSet.{RuleSet}
use Rattle.bound_tree.specs.Labels.{Label, word, number, label_of, label_in, labels, is_label}
use Rattle.bound_tree.specs.Tree.{Line}
use Rattle.net_tree.specs.declared.declaration.NetClose.{NetClose}
use Rattle.net_tree.specs.Tree as net
use Rattle.written_trees.specs.Bodies.{procedure_with}
use Rattle.written_trees.specs.Bodies as bound
use Rattle.written_trees.specs.Lines.{replaced_by}
use Rattle.written_trees.specs.Prologues.{code_sets}
use Rattle.net_run.specs.Members.{Code}
use Rattle.run_matches.specs.CoveredLines.{covers_label, has_sound_label, has_sound_label_in}
use Rattle.run_matches.specs.Sites.{Site, first_statement, site_lines}
use Rattle.run_matches.specs.Upgrades.{Upgrade}
use Rattle.run_statements.specs.Kept.{IsFoundLabel, IsUnreplaced, LabelsAreFound}
use Rattle.run_statements.specs.Written.{HasBody, IsWritten, site_scope}
use Rattle.target_laws.specs.Kept.{is_unsigned, is_unsigned_in, keeps_label}
use Rattle.placing_laws.specs.Control.{LabelsAreSame}
use Rattle.placing_laws.proofs.Lines.{are_bound, sets_inside}
use Rattle.placing_laws.proofs.Members.{site_number}

-- ---- labels that aren't negative

same_sound : (a : Label) → is_unsigned a ≡ covers_label a
same_sound (word name) = refl
same_sound (number (pos n)) = refl
same_sound (number (negsuc n)) = refl

sound_form : (f : Form) → has_sound_label_in f ≡ true → is_unsigned_in (label_in f) ≡ true
sound_form (source.label l) h = same_sound (label_of l) ∙ h
sound_form _ h = refl

sound_bound : (ls : List Line) → list_all has_sound_label ls ≡ true → list_all is_unsigned_in (labels (map (λ (l : Line). l.source) ls)) ≡ true
sound_bound [] h = refl
sound_bound (l ∷ ls) h =
    all_more is_unsigned_in (label_in l.source.form) (labels (map (λ (l : Line). l.source) ls)) (sound_form l.source.form (all_first has_sound_label l ls h))
    (sound_bound ls (all_rest has_sound_label l ls h))

-- what is no code line is no label
no_label : (f : Form) → is_code f ≡ false → label_in f ≡ None
no_label (source.label l) e = absurd (true≢false e)
no_label _ e = refl

sound_lines : (ls : List source.Line) → list_all is_unsigned_in (labels (code_lines ls)) ≡ true → list_all is_unsigned_in (labels ls) ≡ true
sound_lines [] h = refl
sound_lines (l ∷ ls) h = by (is_code l.form) refl h (sound_lines ls)
  where
    by : (b : Bool) → is_code l.form ≡ b → list_all is_unsigned_in (labels (cond b (l ∷ code_lines ls) (code_lines ls))) ≡ true
        → (list_all is_unsigned_in (labels (code_lines ls)) ≡ true → list_all is_unsigned_in (labels ls) ≡ true)
        → list_all is_unsigned_in (label_in l.form ∷ labels ls) ≡ true
    by true e k more =
        all_more is_unsigned_in (label_in l.form) (labels ls) (all_first is_unsigned_in (label_in l.form) (labels (code_lines ls)) k)
        (more (all_rest is_unsigned_in (label_in l.form) (labels (code_lines ls)) k))
    by false e k more = all_more is_unsigned_in (label_in l.form) (labels ls) (ap is_unsigned_in (no_label l.form e)) (more k)

-- ---- lines that aren't replaced keep their labels

unreplaced_keeps : (a : Label) (sets : List RuleSet) (ls : List Line)
    → ((k : ℕ) (rules : RuleSet) → slice_get sets k ≡ Some rules → replaced_by rules ≡ None) → keeps_label a (zip sets ls) ≡ true
unreplaced_keeps a [] ls h = refl
unreplaced_keeps a (r ∷ sets) [] h = refl
unreplaced_keeps a (r ∷ sets) (l ∷ ls) h =
    by (is_label a (label_in l.source.form)) (unreplaced_keeps a sets ls (λ k rules e. h (suc k) rules e))
  where
    by : (b : Bool) → keeps_label a (zip sets ls) ≡ true → cond b (not (is_some (replaced_by r))) (keeps_label a (zip sets ls)) ≡ true
    by true more = ap (λ (o : Option ℕ). not (is_some o)) (h zero r refl)
    by false more = more

-- ---- a procedure

-- a jump in the procedure p
abbrev FoundAt : Upgrade → Site → Code → Label6 → (p : ℕ) → Type 0
FoundAt U s c a p =
    HasBody U.program p s → ((lines : List Line) → slice_get U.program.bodies p ≡ Some lines → list_all has_sound_label lines ≡ true)
    → ((k : ℕ) → IsUnreplaced U p s k) → IsFoundLabel U p s c a

label_found : LabelsAreSame → (U : Upgrade) (s : Site) (c : Code) (a : Label6) (head : net.Head) (close : NetClose)
    → c.procedure ≡ procedure_with U.program (site_scope U s) s.placed s.body head close → covers_label (label_of a) ≡ true
    → FoundAt U s c a s.placed.at.procedure
label_found same U s c a head close is own b sound unreplaced =
    let P = U.program in
    let S = site_scope U s in
    let p = s.placed.at.procedure in
    let of_code = subst (λ (ls : List source.Line). list_all is_unsigned_in (labels ls) ≡ true) b.sources (sound_bound b.lines (sound b.lines b.are_lines)) in
    same P S s.placed s.body head close c a is (are_bound P s b) (sound_lines (site_lines s) of_code) (same_sound (label_of a) ∙ own)
    (unreplaced_keeps (label_of a) (code_sets S p (first_statement s) 0 (site_lines s)) (bound.lines_in (slice_get P.bodies p))
    (λ k rules e. unreplaced k rules (ap (λ (sets : List RuleSet). slice_get sets k) (sets_inside S p p (first_statement s) 0 (site_lines s)) ∙ e)))

pub labels_are_found : LabelsAreSame → (U : Upgrade) → IsWritten U → LabelsAreFound U
labels_are_found same U w p s x site W sound unreplaced a own =
    subst (FoundAt U s W.code a) (site_number U.program.declarations p s site)
    (label_found same U s W.code a W.head W.close W.is_written own) (w.bodies p s site) sound unreplaced
