-- Where the variables of a procedure stand among those that the members of modules declare.
use Rattle.std.proofs.Common.{◌≡◌, ℕ, suc, ◌+◌, ◌<◌, ◌≤◌, Bool, true, false, nat_eq, List, [], ◌∷◌, ◌++◌, length, Option, Some, None, refl, sym, ap, subst, ◌∙◌, arith}
use Rattle.std.specs.Prelude.{◌||◌, cond, is_some}
use Rattle.std.specs.List.{AllByRecursion as Each}
use Rattle.up_base.specs.declared.place.Place.{Place}
use Rattle.vb_tree.specs.declared.declared.Owner.{Owner}
use Rattle.vb_tree.specs.declared.declared.Owner.TheVariants as owner
use Rattle.vb_tree.specs.declared.declared.ProcId.{ProcId}
use Rattle.vb_tree.specs.FlatLines.{flat_lines, member_lines}
use Rattle.vb_tree.specs.Tree.{Line, Member, alone, group, proc, Nodes}
use Rattle.written_trees.specs.Placing.{count_procedures}
use Rattle.written_trees.specs.Prologues.{declares}
use Rattle.declared_names.specs.Declaring.{Numbers, Lists, Declares, Head, head_of, follow, a_procedure, answer_declares, given_place, group_declares, head_declares, inside_declares, line_declares, local_declares, locals_declare, member_declares, numbers_behind, params_declare, procedure_declares}
use Rattle.vb6_run.specs.Programs.{is_local_of, is_static_of}
use Rattle.upgrade_laws.specs.Ordered.{IsOrderly, StandsIn}
use Rattle.upgrade_laws.proofs.Lists.{bracketed, each_from, each_left}
use Rattle.upgrade_laws.proofs.Slots.{Slot, earlier, ends, later, Laid}
use Rattle.upgrade_laws.proofs.Tests.{same}
use Rattle.upgrade_laws.proofs.Stretches.{IsAway, Stretch, stretch_behind}
use Rattle.upgrade_laws.proofs.Walked.{FieldsFit, Given, Gives, LocalsLaid, answer_gives, follow_gives, group_gives, line_gives, local_gives, locals_laid, nothing_gives, params_give, procs_follow, slot, slots_follow, slots_in}

-- one of a file and of statements from one on to another, which a procedure doesn't own
pub record IsWithin (p file low high : ℕ) (s : Slot) : Type 0 where
  pub is_file : s.file ≡ file
  pub low_end : low ≤ s.statement
  pub high_end : s.statement < high
  pub foreign : is_local_of p s.owner ≡ false

within : (p file low high : ℕ) (of : Owner) (place : Place) (n : ℕ) → place.file ≡ file → low ≤ n → n < high → is_local_of p of ≡ false
    → IsWithin p file low high (slot of place n)
within p file low high of place n e l h f = record { is_file = e; low_end = l; high_end = h; foreign = f }

pub away_before : (p file n count low high : ℕ) (s : Slot) → high ≤ n → IsWithin p file low high s → IsAway p file n count s
away_before p file n count low high s h w = record {
  misses = λ j l u. earlier file j s (omega (arith, h, w.high_end, l));
  foreign = w.foreign;
}

pub away_behind : (p file n count low high : ℕ) (s : Slot) → n + count ≤ low → IsWithin p file low high s → IsAway p file n count s
away_behind p file n count low high s h w = record {
  misses = λ j l u. later file j s (omega (arith, h, w.low_end, u));
  foreign = w.foreign;
}

wider : (p file low high more : ℕ) (s : Slot) → high ≤ more → IsWithin p file low high s → IsWithin p file low more s
wider p file low high more s h w = record { is_file = w.is_file; low_end = w.low_end; high_end = omega (arith, h, w.high_end); foreign = w.foreign }

lower : (p file low high less : ℕ) (s : Slot) → less ≤ low → IsWithin p file low high s → IsWithin p file less high s
lower p file low high less s h w = record { is_file = w.is_file; low_end = omega (arith, h, w.low_end); high_end = w.high_end; foreign = w.foreign }

-- ---- lines in a row

fields_within : (p file low high t n : ℕ) (ls : List Line) → low ≤ n → n + length ls ≤ high → Each (StandsIn file) ls
    → FieldsFit (IsWithin p file low high) (owner.Field (record { 0 = t })) n ls
fields_within p file low high t n [] l h e = tt
fields_within p file low high t n (x ∷ ls) l h e = (
  within p file low high (owner.Field (record { 0 = t })) x.place n e.0 l (omega (arith, h)) refl,
  fields_within p file low high t (n + 1) ls (omega (arith, l)) (omega (arith, h)) e.1,
)

locals_within : (p file low high : ℕ) (q : ProcId) (n : ℕ) (ls : List Line) → nat_eq p q.0 ≡ false → low ≤ n → n + length ls ≤ high → Each (StandsIn file) ls
    → Gives (IsWithin p file low high) (locals_declare q n ls)
locals_within p file low high q n [] d l h e = nothing_gives (IsWithin p file low high)
locals_within p file low high q n (x ∷ ls) d l h e =
    follow_gives (IsWithin p file low high) (local_declares q n x.place x.form) (locals_declare q (n + 1) ls)
    (local_gives (IsWithin p file low high) q n x.place x.form
    (within p file low high (owner.Local q) x.place n e.0 l (omega (arith, h)) d) (within p file low high (owner.Static q) x.place n e.0 l (omega (arith, h)) refl))
    (locals_within p file low high q (n + 1) ls d (omega (arith, l)) (omega (arith, h)) e.1)

-- ---- the head of a procedure

param_within : (p file low high : ℕ) (q : ProcId) (place : Place) (n : ℕ) (b : Bool) → place.file ≡ file → low ≤ n → n < high
    → IsWithin p file low high (slot (cond b (owner.Value q) (owner.Reference q)) place n)
param_within p file low high q place n true e l h = within p file low high (owner.Value q) place n e l h refl
param_within p file low high q place n false e l h = within p file low high (owner.Reference q) place n e l h refl

params_within : (p file low high : ℕ) (q : ProcId) (place : Place) (n : ℕ) (d : Head) → place.file ≡ file → low ≤ n → n < high
    → Gives (IsWithin p file low high) (params_declare q (given_place d) place n 0 d.signature.params)
params_within p file low high q place n d e l h =
    params_give (IsWithin p file low high) q (given_place d) place n 0 d.signature.params (λ b. param_within p file low high q place n b e l h)

answer_within : (p file low high : ℕ) (q : ProcId) (place : Place) (n : ℕ) (d : Head) → place.file ≡ file → low ≤ n → n < high
    → Gives (IsWithin p file low high) (answer_declares q place n d)
answer_within p file low high q place n d e l h =
    answer_gives (IsWithin p file low high) q place n d (within p file low high (owner.Answer q) place n e l h refl)

-- a procedure declares itself, and no variable by that
head_slots : (file : ℕ) (place : Place) (n : ℕ) (d : Head) (k : Numbers) → slots_in (a_procedure file place n d k) ≡ []
unfolding a_procedure
head_slots file place n d k = refl

pub head_procs : (file : ℕ) (place : Place) (n : ℕ) (d : Head) (k : Numbers) → length (a_procedure file place n d k).procs ≡ 1
unfolding a_procedure
head_procs file place n d k = refl

-- a procedure as its head and what is inside
pub record Opened (file : ℕ) (place : Place) (n : ℕ) (d : Head) (body : List Line) (k : Numbers) : Type 0 where
  pub inner : Numbers
  pub slots : slots_in (procedure_declares file place n d body k) ≡ slots_in (inside_declares (record { 0 = k.procs }) place n d body inner)
  pub procs : length (procedure_declares file place n d body k).procs ≡ 1 + length (inside_declares (record { 0 = k.procs }) place n d body inner).procs

opened : (file : ℕ) (place : Place) (n : ℕ) (d : Head) (body : List Line) (k : Numbers) → Opened file place n d body k
unfolding procedure_declares
opened file place n d body k =
    let f : Declares = a_procedure file place n d in
    let g : Declares = inside_declares (record { 0 = k.procs }) place n d body in
    let inner : Numbers = numbers_behind k (f k) in
    record {
      inner = inner;
      slots = slots_follow f g k ∙ ap (λ (x : List Slot). x ++ slots_in (g inner)) (head_slots file place n d k);
      procs = omega (arith, procs_follow f g k, head_procs file place n d k);
    }

-- ---- members

foreign_inside : (p file low high : ℕ) (q : ProcId) (place : Place) (n : ℕ) (d : Head) (body : List Line) → nat_eq p q.0 ≡ false → place.file ≡ file
    → Each (StandsIn file) body → low ≤ n → n + 1 + length body ≤ high → Gives (IsWithin p file low high) (inside_declares q place n d body)
foreign_inside p file low high q place n d body ne e ls l h =
    let R : Slot → Type 0 = IsWithin p file low high in
    follow_gives R (params_declare q (given_place d) place n 0 d.signature.params) (follow (answer_declares q place n d) (locals_declare q (n + 1) body))
    (params_within p file low high q place n d e l (omega (arith, h)))
    (follow_gives R (answer_declares q place n d) (locals_declare q (n + 1) body) (answer_within p file low high q place n d e l (omega (arith, h)))
    (locals_within p file low high q (n + 1) body ne (omega (arith, l)) (omega (arith, h)) ls))

-- what a member declares that doesn't own a variable of the procedure
pub record Foreign (p file n high count : ℕ) (d : Lists) : Type 0 where
  pub slots : Each (IsWithin p file n high) (slots_in d)
  pub procs : length d.procs ≡ count

headed : (p file : ℕ) (place : Place) (n : ℕ) (o : Option Head) (body : List Line) (k : Numbers) → is_some o ≡ true → nat_eq p k.procs ≡ false → place.file ≡ file
    → Each (StandsIn file) body → Foreign p file n (n + (length body + 2)) 1 (head_declares file place n o body k)
headed p file place n None body k some ne e ls = absurd (cc some)
headed p file place n (Some d) body k some ne e ls =
    let w : Opened file place n d body k = opened file place n d body k in
    let g : Given (IsWithin p file n (n + (length body + 2))) (inside_declares (record { 0 = k.procs }) place n d body w.inner) =
    foreign_inside p file n (n + (length body + 2)) (record { 0 = k.procs }) place n d body ne e ls (omega arith) (omega arith) w.inner in
    record {
      slots = subst (λ (x : List Slot). Each (IsWithin p file n (n + (length body + 2))) x) (sym w.slots) g.slots;
      procs = omega (arith, w.procs, g.procs);
    }

-- one that isn't the procedure
abbrev pub IsOther : (p : ℕ) → Numbers → Member → Type 0
IsOther p k (proc head body close) = nat_eq p k.procs ≡ false
IsOther p k _ = Unit {0}

pub member_foreign : (p file n : ℕ) (m : Member) (k : Numbers) → IsOrderly file m → IsOther p k m
    → Foreign p file n (n + length (member_lines m)) (count_procedures m) (member_declares file n m k)
member_foreign p file n (alone l) k o d =
    let g : Given (IsWithin p file n (n + 1)) (line_declares file n l.place l.form k) =
    line_gives (IsWithin p file n (n + 1)) file n l.place l.form (within p file n (n + 1) (owner.Module file) l.place n o.lines.0 (omega arith) (omega arith) refl) k in
    record { slots = g.slots; procs = g.procs }
member_foreign p file n (group head lines close) k o d =
    let high : ℕ = n + length (head ∷ lines ++ close ∷ []) in
    let g : Given (IsWithin p file n high) (group_declares file head.place n head.form lines k) =
    group_gives (IsWithin p file n high) file head.place n head.form lines
    (λ t. fields_within p file n high t (n + 1) lines (omega arith) (omega (arith, bracketed head close lines)) (each_left (StandsIn file) lines (close ∷ []) o.lines.1)) k in
    record { slots = g.slots; procs = g.procs }
member_foreign p file n (proc head body close) k o d =
    let g : Foreign p file n (n + (length (flat_lines body) + 2)) 1 (head_declares file head.place n (head_of head.form) (flat_lines body) k) =
    headed p file head.place n (head_of head.form) (flat_lines body) k o.headed d o.lines.0 (each_left (StandsIn file) (flat_lines body) (close ∷ []) o.lines.1) in
    record {
      slots = subst (λ (h : ℕ). Each (IsWithin p file n (n + h)) (slots_in (head_declares file head.place n (head_of head.form) (flat_lines body) k)))
          (sym (bracketed head close (flat_lines body))) g.slots;
      procs = g.procs;
    }

-- ---- the procedure itself

pub record Own (p file n : ℕ) (ls : List Line) (d : Lists) : Type 0 where
  pub stretch : Stretch p file declares (suc n) ls (slots_in d)
  pub procs : length d.procs ≡ 1

own_inside : (file : ℕ) (q : ProcId) (place : Place) (n : ℕ) (d : Head) (body : List Line) (k : Numbers) → place.file ≡ file → Each (StandsIn file) body
    → Stretch q.0 file declares (suc n) body (slots_in (inside_declares q place n d body k)) × (length (inside_declares q place n d body k).procs ≡ 0)
own_inside file q place n d body k e ls =
    let p : ℕ = q.0 in
    let f : Declares = params_declare q (given_place d) place n 0 d.signature.params in
    let g : Declares = answer_declares q place n d in
    let h : Declares = locals_declare q (n + 1) body in
    let k1 : Numbers = numbers_behind k (f k) in
    let k2 : Numbers = numbers_behind k1 (g k1) in
    let R : Slot → Type 0 = IsWithin p file n (suc n) in
    let params : Given R (f k) = params_within p file n (suc n) q place n d e (omega arith) (omega arith) k in
    let answer : Given R (g k1) = answer_within p file n (suc n) q place n d e (omega arith) (omega arith) k1 in
    let locals : LocalsLaid file (λ (o : Owner). (is_local_of p o || is_static_of p o) ≡ true) (n + 1) body (h k2) =
    locals_laid file (λ (o : Owner). (is_local_of p o || is_static_of p o) ≡ true) q (ap (λ (b : Bool). b || false) (same p)) (same p) (n + 1) body ls k2 in
    let away : (ss : List Slot) → Each R ss → Each (IsAway p file (suc n) (length body)) ss =
    λ ss w. each_from R (IsAway p file (suc n) (length body)) (λ s x. away_before p file (suc n) (length body) n (suc n) s (omega arith) x) ss w in
    let mine : Stretch p file declares (suc n) body (slots_in (h k2)) = record {
      before = [];
      mid = slots_in (h k2);
      after = [];
      parts = sym (ends (slots_in (h k2)));
      first = tt;
      last = tt;
      laid = subst (λ (m : ℕ). Laid file declares m body (slots_in (h k2))) (omega arith) locals.laid;
      owned = locals.owners;
    } in (
      subst (λ (x : List Slot). Stretch p file declares (suc n) body x)
          (sym (slots_follow f (follow g h) k ∙ ap (λ (x : List Slot). slots_in (f k) ++ x) (slots_follow g h k1)))
          (stretch_behind p file declares (suc n) body (slots_in (f k)) (slots_in (g k1) ++ slots_in (h k2)) (away (slots_in (f k)) params.slots)
          (stretch_behind p file declares (suc n) body (slots_in (g k1)) (slots_in (h k2)) (away (slots_in (g k1)) answer.slots) mine)),
      omega (arith, procs_follow f (follow g h) k, procs_follow g h k1, params.procs, answer.procs, locals.procs),
    )

own_headed : (p file : ℕ) (place : Place) (n : ℕ) (o : Option Head) (body : List Line) (k : Numbers) → is_some o ≡ true → p ≡ k.procs → place.file ≡ file
    → Each (StandsIn file) body → Own p file n body (head_declares file place n o body k)
own_headed p file place n None body k some is e ls = absurd (cc some)
own_headed p file place n (Some d) body k some is e ls =
    let w : Opened file place n d body k = opened file place n d body k in
    let i = own_inside file (record { 0 = k.procs }) place n d body w.inner e ls in
    record {
      stretch = subst (λ (x : List Slot). Stretch p file declares (suc n) body x) (sym w.slots)
          (subst (λ (q : ℕ). Stretch q file declares (suc n) body (slots_in (inside_declares (record { 0 = k.procs }) place n d body w.inner))) (sym is) i.0);
      procs = omega (arith, w.procs, i.1);
    }

pub procedure_own : (p file n : ℕ) (head : Line) (body : Nodes) (close : Line) (k : Numbers) → IsOrderly file (proc head body close) → p ≡ k.procs
    → Own p file n (flat_lines body) (member_declares file n (proc head body close) k)
procedure_own p file n head body close k o is =
    own_headed p file head.place n (head_of head.form) (flat_lines body) k o.headed is o.lines.0 (each_left (StandsIn file) (flat_lines body) (close ∷ []) o.lines.1)
