-- Lines and parts one after the other.
use Rattle.std.proofs.Common.{◌≡◌, inl, inr, ℕ, List, [], ◌∷◌, ◌++◌, Option, Some, None, refl, sym, ap, ◌∙◌, append_assoc, subst}
use Rattle.std.proofs.lemmas.List.{append-nil}
use Rattle.up_base.specs.declared.place.Fault.{Fault}
use Rattle.up_base.specs.declared.place.Place.{Place}
use Rattle.vb_tree.specs.Tree.{Line}
use Rattle.vb_tree.specs.Blocks.{role_of}
use Rattle.vb_lines.specs.declared.building.ModuleBuild.{ModuleBuild}
use Rattle.declaration_forms.specs.declared.starts.Spot.{Spot}
use Rattle.vb_lines.specs.Building.{IsBuilt}
use Rattle.vb_lines.specs.Modules.{AreRead, HasFault, spot_of}
use Rattle.vb_lines.specs.Nesting.{Open, open_after, open_behind, fault_of}
use Rattle.vb_lines.specs.Parts.{Part, PartGives, Outcome, gives, lines_fault, first_of}
use Rattle.vb_lines.specs.Reading.{AddsLines, FaultOfLines, AddsGiven, FaultOfGiven, AddsParts, FaultOfParts}

pub after_both : (opens : List Open) (ls ms : List Line) → open_after opens (ls ++ ms) ≡ open_after (open_after opens ls) ms
after_both opens [] ms = refl
after_both opens (l ∷ ls) ms = after_both (open_behind (role_of l.form) l opens) ls ms

first_none : (a b : Option ℕ) → first_of a b ≡ None → (a ≡ None) × (b ≡ None)
first_none None b e = (refl, e)
first_none (Some k) b e = absurd cc

-- the first fault of lines, where the first of them have none
later_fault : (opens : List Open) (ls ms : List Line) → lines_fault opens ls ≡ None → lines_fault opens (ls ++ ms) ≡ lines_fault (open_after opens ls) ms
later_fault opens [] ms e = refl
later_fault opens (l ∷ ls) ms e =
    let both = first_none (fault_of opens (role_of l.form)) _ e in
    ap (λ o. first_of o (lines_fault (open_behind (role_of l.form) l opens) (ls ++ ms))) both.0 ∙ later_fault (open_behind (role_of l.form) l opens) ls ms both.1

-- a fault stays the first one, whatever lines follow
front_fault : (opens : List Open) (ls ms : List Line) (k : ℕ) → lines_fault opens ls ≡ Some k → lines_fault opens (ls ++ ms) ≡ Some k
front_fault opens [] ms k e = absurd cc
front_fault opens (l ∷ ls) ms k e = by (fault_of opens (role_of l.form)) e (front_fault (open_behind (role_of l.form) l opens) ls ms k)
  where
    by : (o : Option ℕ) → first_of o (lines_fault (open_behind (role_of l.form) l opens) ls) ≡ Some k → (lines_fault (open_behind (role_of l.form) l opens) ls ≡ Some k → lines_fault (open_behind (role_of l.form) l opens) (ls ++ ms) ≡ Some k) → first_of o (lines_fault (open_behind (role_of l.form) l opens) (ls ++ ms)) ≡ Some k
    by None e more = more e
    by (Some j) e more = e

-- ---- lines

pub no_lines : (b : ModuleBuild) → AddsLines [] b b
no_lines b = record { right = λ lines h. refl; built = λ lines h. subst (λ ls. IsBuilt ls b) (sym (append-nil lines)) h }

pub lines_then_lines : (ls ms : List Line) (a b c : ModuleBuild) → AddsLines ls a b → AddsLines ms b c → AddsLines (ls ++ ms) a c
lines_then_lines ls ms a b c first second = record {
  right = λ lines h.
      later_fault (open_after [] lines) ls ms (first.right lines h)
      ∙ ap (λ os. lines_fault os ms) (sym (after_both [] lines ls))
      ∙ second.right (lines ++ ls) (first.built lines h);
  built = λ lines h. subst (λ ks. IsBuilt ks c) (append_assoc lines ls ms) (second.built (lines ++ ls) (first.built lines h));
}

pub lines_then_fault : (ls ms : List Line) (place : Place) (a b : ModuleBuild) (f : Fault) → AddsLines ls a b → FaultOfLines ms place b f → FaultOfLines (ls ++ ms) place a f
lines_then_fault ls ms place a b f first second = record {
  kind = λ lines h.
      later_fault (open_after [] lines) ls ms (first.right lines h)
      ∙ ap (λ os. lines_fault os ms) (sym (after_both [] lines ls))
      ∙ second.kind (lines ++ ls) (first.built lines h);
  at = second.at;
}

pub fault_before_lines : (ls ms : List Line) (place : Place) (a : ModuleBuild) (f : Fault) → FaultOfLines ls place a f → FaultOfLines (ls ++ ms) place a f
fault_before_lines ls ms place a f first = record { kind = λ lines h. front_fault (open_after [] lines) ls ms f.kind (first.kind lines h); at = first.at }

-- ---- parts

pub no_parts : (b : ModuleBuild) → AddsParts [] b b
no_parts b = record { adds = λ lines h. ([], refl, subst (λ ls. IsBuilt ls b) (sym (append-nil lines)) h) }

read_both : (opens : List Open) (ps qs : List Part) (ls ms : List Line) → AreRead opens ps ls → AreRead (open_after opens ls) qs ms → AreRead opens (ps ++ qs) (ls ++ ms)
read_both opens [] qs ls ms h k = subst (λ xs. AreRead opens qs xs) (ap (λ xs. xs ++ ms) (sym h)) (subst (λ xs. AreRead (open_after opens xs) qs ms) h k)
read_both opens (p ∷ ps) qs ls ms h k =
    let after : open_after opens ls ≡ open_after (open_after opens h.0) h.1 = ap (open_after opens) h.5 ∙ after_both opens h.0 h.1 in
    (h.0, h.1 ++ ms, h.2, h.3, read_both (open_after opens h.0) ps qs h.1 ms h.4 (subst (λ os. AreRead os qs ms) after k), ap (λ xs. xs ++ ms) h.5 ∙ append_assoc h.0 h.1 ms)

read_then_fault : (opens : List Open) (ps qs : List Part) (ls : List Line) (f : Fault) → AreRead opens ps ls → HasFault (open_after opens ls) qs f → HasFault opens (ps ++ qs) f
read_then_fault opens [] qs ls f h k = subst (λ xs. HasFault (open_after opens xs) qs f) h k
read_then_fault opens (p ∷ ps) qs ls f h k =
    let after : open_after opens ls ≡ open_after (open_after opens h.0) h.1 = ap (open_after opens) h.5 ∙ after_both opens h.0 h.1 in
    inr (h.0, h.2, h.3, read_then_fault (open_after opens h.0) ps qs h.1 f h.4 (subst (λ os. HasFault os qs f) after k))

fault_in_front : (opens : List Open) (ps qs : List Part) (f : Fault) → HasFault opens ps f → HasFault opens (ps ++ qs) f
fault_in_front opens [] qs f h = absurd h
fault_in_front opens (p ∷ ps) qs f (inl h) = inl h
fault_in_front opens (p ∷ ps) qs f (inr h) = inr (h.0, h.1, h.2, fault_in_front (open_after opens h.0) ps qs f h.3)

pub parts_then_parts : (ps qs : List Part) (a b c : ModuleBuild) → AddsParts ps a b → AddsParts qs b c → AddsParts (ps ++ qs) a c
parts_then_parts ps qs a b c first second = record {
  adds = λ lines h.
      let one = first.adds lines h in
      let two = second.adds (lines ++ one.0) one.2 in (
        one.0 ++ two.0,
        read_both (open_after [] lines) ps qs one.0 two.0 one.1 (subst (λ os. AreRead os qs two.0) (after_both [] lines one.0) two.1),
        subst (λ ks. IsBuilt ks c) (append_assoc lines one.0 two.0) two.2,
      );
}

pub parts_then_fault : (ps qs : List Part) (a b : ModuleBuild) (f : Fault) → AddsParts ps a b → FaultOfParts qs b f → FaultOfParts (ps ++ qs) a f
parts_then_fault ps qs a b f first second = record {
  fault = λ lines h.
      let one = first.adds lines h in
      read_then_fault (open_after [] lines) ps qs one.0 f one.1 (subst (λ os. HasFault os qs f) (after_both [] lines one.0) (second.fault (lines ++ one.0) one.2));
}

pub fault_before_parts : (ps qs : List Part) (a : ModuleBuild) (f : Fault) → FaultOfParts ps a f → FaultOfParts (ps ++ qs) a f
fault_before_parts ps qs a f first = record { fault = λ lines h. fault_in_front (open_after [] lines) ps qs f (first.fault lines h) }

-- ---- one part

pub part_of_given : (p : Part) (a b : ModuleBuild) → AddsGiven (λ spot o. PartGives spot p o) a b → AddsParts (p ∷ []) a b
part_of_given p a b given = record {
  adds = λ lines h.
      let one = given.adds lines h in
      (one.0, (one.0, [], one.1, one.2, refl, sym (append-nil one.0)), one.3);
}

pub fault_of_given : (p : Part) (a : ModuleBuild) (f : Fault) → FaultOfGiven (λ spot o. PartGives spot p o) p.place a f → FaultOfParts (p ∷ []) a f
fault_of_given p a f given = record {
  fault = λ lines h.
      let one = given.fault lines h in
      inl (record { outcome = one.0; given = one.1; kind = one.2; place = given.at });
}

-- what is given is known, wherever the line stands
pub given_lines : (Given : Spot → Outcome → Type 0) (new : List Line) (a b : ModuleBuild) → ((lines : List Line) → IsBuilt lines a → Given (spot_of (open_after [] lines)) (gives new)) → AddsLines new a b → AddsGiven Given a b
given_lines Given new a b is adds = record { adds = λ lines h. (new, is lines h, adds.right lines h, adds.built lines h) }

pub given_lines_fault : (Given : Spot → Outcome → Type 0) (new : List Line) (place : Place) (a : ModuleBuild) (f : Fault) → ((lines : List Line) → IsBuilt lines a → Given (spot_of (open_after [] lines)) (gives new)) → FaultOfLines new place a f → FaultOfGiven Given place a f
given_lines_fault Given new place a f is fault = record { fault = λ lines h. (gives new, is lines h, fault.kind lines h); at = fault.at }
