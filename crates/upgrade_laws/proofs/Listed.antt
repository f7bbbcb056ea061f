-- Where the declared variables of a procedure stand among those of a project.
use Rattle.std.proofs.Common.{◌≡◌, ◌⊎◌, inl, inr, ℕ, zero, suc, ◌+◌, ◌<◌, ◌≤◌, false, nat_eq, List, [], ◌∷◌, ◌++◌, length, Some, slice_get, refl, sym, ap, subst, ◌∙◌, arith}
use Rattle.std.specs.List.{AllByRecursion as Each}
use Rattle.std.proofs.lemmas.Bool.Decides.{nat_tests}
use Rattle.std.proofs.lemmas.Option.{none-some, same_Some}
use Rattle.vb_tree.specs.FlatLines.{flat_lines, member_lines}
use Rattle.vb_tree.specs.Tree.{Line, Member, alone, group, proc, Module, Nodes}
use Rattle.written_trees.specs.Comments.{Comment, past}
use Rattle.written_trees.specs.Placing.{Numbers as Standing, Placed, behind_member, behind_members, count_procedures, last_line, place_member, placed_members}
use Rattle.written_trees.specs.Projects.{next_module}
use Rattle.written_trees.specs.Prologues.{declares}
use Rattle.declared_names.specs.Declaring.{Numbers, Lists, Declares, follow, member_declares, module_declares, nothing, numbers_behind, project_declares}
use Rattle.vb6_run.specs.Programs.{is_local_of}
use Rattle.run_matches.specs.Sites.{Site, first_statement, member_sites, module_sites, site_lines, sites_from}
use Rattle.upgrade_laws.specs.Ordered.{IsOrderly}
use Rattle.upgrade_laws.specs.Separate.{HaveDifferentFiles}
use Rattle.upgrade_laws.proofs.Bodies.{sites_at}
use Rattle.upgrade_laws.proofs.Lists.{bracketed, each_append, each_from, each_got}
use Rattle.upgrade_laws.proofs.Slots.{Slot}
use Rattle.upgrade_laws.proofs.Tests.{first_false, less, more}
use Rattle.upgrade_laws.proofs.Stretches.{IsAway, Stretch, stretch_before, stretch_behind}
use Rattle.upgrade_laws.proofs.Standing.{Foreign, IsOther, IsWithin, Own, away_before, away_behind, member_foreign, procedure_own}
use Rattle.upgrade_laws.proofs.Walked.{procs_follow, slots_follow, slots_in}

-- ---- what procedures are counted

abbrev count_in : List Member → ℕ
count_in [] = 0
count_in (m ∷ ms) = count_procedures m + count_in ms

abbrev count_of : List Module → ℕ
count_of [] = 0
count_of (m ∷ ms) = count_in m.members + count_of ms

-- the number of a procedure is none of so many from one on
abbrev IsNone : (p first count : ℕ) → Type 0
IsNone p first count = (q : ℕ) → first ≤ q → q < first + count → nat_eq p q ≡ false

one_other : (p : ℕ) (k : Numbers) (m : Member) (count : ℕ) → IsNone p k.procs (count_procedures m + count) → IsOther p k m
one_other p k (alone l) count h = tt
one_other p k (group head lines close) count h = tt
one_other p k (proc head body close) count h = h k.procs (omega arith) (omega arith)

-- ---- slots of other procedures

-- of a file, from a statement on
abbrev IsBehind : (p file low : ℕ) → Slot → Type 0
IsBehind p file low s = (high : ℕ) × IsWithin p file low high s

lowered : (p file low less : ℕ) (s : Slot) → less ≤ low → IsBehind p file low s → IsBehind p file less s
lowered p file low less s h b =
    (b.0, record { is_file = b.1.is_file; low_end = omega (arith, h, b.1.low_end); high_end = b.1.high_end; foreign = b.1.foreign })

pub record Others (p file n count : ℕ) (d : Lists) : Type 0 where
  pub slots : Each (IsBehind p file n) (slots_in d)
  pub procs : length d.procs ≡ count

nothing_others : (p file n : ℕ) (k : Numbers) → Others p file n 0 (nothing k)
unfolding nothing
nothing_others p file n k = record { slots = tt; procs = refl }

members_others : (p file n : ℕ) (ms : List Member) (k : Numbers) → Each (IsOrderly file) ms → IsNone p k.procs (count_in ms)
    → Others p file n (count_in ms) (module_declares file n ms k)
members_others p file n [] k o h = nothing_others p file n k
members_others p file n (m ∷ ms) k o h =
    let f : Declares = member_declares file n m in
    let later : ℕ = n + length (member_lines m) in
    let g : Declares = module_declares file later ms in
    let k1 : Numbers = numbers_behind k (f k) in
    let own : Foreign p file n later (count_procedures m) (f k) = member_foreign p file n m k o.0 (one_other p k m (count_in ms) h) in
    let rest : Others p file later (count_in ms) (g k1) =
    members_others p file later ms k1 o.1 (λ q l u. h q (omega (arith, l, own.procs)) (omega (arith, u, own.procs))) in
    record {
      slots = subst (λ (x : List Slot). Each (IsBehind p file n) x) (sym (slots_follow f g k))
          (each_append (IsBehind p file n) (slots_in (f k)) (slots_in (g k1))
          (each_from (IsWithin p file n later) (IsBehind p file n) (λ s w. (later, w)) (slots_in (f k)) own.slots)
          (each_from (IsBehind p file later) (IsBehind p file n) (λ s w. lowered p file later n s (omega arith) w) (slots_in (g k1)) rest.slots));
      procs = omega (arith, procs_follow f g k, own.procs, rest.procs);
    }

-- ---- a module

-- among what a module declares, the variables of one of its procedures
pub record Found (p file n : ℕ) (s : Site) (count : ℕ) (d : Lists) : Type 0 where
  pub stretch : Stretch p file declares (first_statement s) (site_lines s) (slots_in d)
  pub low : n < first_statement s
  pub procs : length d.procs ≡ count

-- behind a member that is another
behind_other : (p file n : ℕ) (m : Member) (ms : List Member) (k : Numbers) (s : Site) → Foreign p file n (n + length (member_lines m)) (count_procedures m) (member_declares file n m k)
    → Found p file (n + length (member_lines m)) s (count_in ms)
    (module_declares file (n + length (member_lines m)) ms (numbers_behind k (member_declares file n m k)))
    → Found p file n s (count_procedures m + count_in ms) (module_declares file n (m ∷ ms) k)
behind_other p file n m ms k s own rest =
    let f : Declares = member_declares file n m in
    let later : ℕ = n + length (member_lines m) in
    let g : Declares = module_declares file later ms in
    let k1 : Numbers = numbers_behind k (f k) in
    let count : ℕ = length (site_lines s) in
    record {
      stretch = subst (λ (x : List Slot). Stretch p file declares (first_statement s) (site_lines s) x) (sym (slots_follow f g k))
          (stretch_behind p file declares (first_statement s) (site_lines s) (slots_in (f k)) (slots_in (g k1))
          (each_from (IsWithin p file n later) (IsAway p file (first_statement s) count)
          (λ x w. away_before p file (first_statement s) count n later x (omega (arith, rest.low)) w) (slots_in (f k)) own.slots)
          rest.stretch);
      low = omega (arith, rest.low);
      procs = omega (arith, procs_follow f g k, own.procs, rest.procs);
    }

-- the procedure before other members
before_others : (p file n : ℕ) (head : Line) (body : Nodes) (close : Line) (ms : List Member) (k : Numbers) (s : Site) → first_statement s ≡ suc n → s.body ≡ body
    → IsOrderly file (proc head body close) → Each (IsOrderly file) ms → p ≡ k.procs
    → Found p file n s (1 + count_in ms) (module_declares file n (proc head body close ∷ ms) k)
before_others p file n head body close ms k s at same o os is =
    let m : Member = proc head body close in
    let f : Declares = member_declares file n m in
    let later : ℕ = n + length (member_lines m) in
    let g : Declares = module_declares file later ms in
    let k1 : Numbers = numbers_behind k (f k) in
    let own : Own p file n (flat_lines body) (f k) = procedure_own p file n head body close k o is in
    let rest : Others p file later (count_in ms) (g k1) =
    members_others p file later ms k1 os (λ q l u. less p q (omega (arith, l, is, own.procs))) in
    let mine : Stretch p file declares (suc n) (flat_lines body) (slots_in (f k) ++ slots_in (g k1)) =
    stretch_before p file declares (suc n) (flat_lines body) (slots_in (f k)) (slots_in (g k1)) own.stretch
    (each_from (IsBehind p file later) (IsAway p file (suc n) (length (flat_lines body)))
    (λ x w. away_behind p file (suc n) (length (flat_lines body)) later w.0 x (omega (arith, bracketed head close (flat_lines body))) w.1) (slots_in (g k1)) rest.slots) in
    record {
      stretch = subst (λ (x : List Slot). Stretch p file declares (first_statement s) (site_lines s) x) (sym (slots_follow f g k))
          (subst (λ (b : Nodes). Stretch p file declares (first_statement s) (flat_lines b) (slots_in (f k) ++ slots_in (g k1))) (sym same)
          (subst (λ (i : ℕ). Stretch p file declares i (flat_lines body) (slots_in (f k) ++ slots_in (g k1))) (sym at) mine));
      low = omega (arith, at);
      procs = omega (arith, procs_follow f g k, own.procs, rest.procs);
    }

members_found : (p file : ℕ) (home : ℕ) (m : Module) (at : Standing) (cs : List Comment) (n : ℕ) (ms : List Member) (k : Numbers) (j : ℕ) (s : Site)
    → Each (IsOrderly file) ms → at.statement ≡ n → slice_get (sites_at home m (placed_members at cs ms)) j ≡ Some s → p ≡ k.procs + j
    → Found p file n s (count_in ms) (module_declares file n ms k)
members_found p file home m at cs n [] k j s o a e is = absurd (none-some s e)
members_found p file home m at cs n (alone l ∷ ms) k j s o a e is =
    let own : Foreign p file n (n + 1) 0 (member_declares file n (alone l) k) = member_foreign p file n (alone l) k o.0 tt in
    behind_other p file n (alone l) ms k s own
    (members_found p file home m (behind_member at (alone l)) (past (last_line (alone l)) cs) (n + length (member_lines (alone l))) ms
    (numbers_behind k (member_declares file n (alone l) k)) j s o.1 (omega (arith, a)) e (omega (arith, is, own.procs)))
members_found p file home m at cs n (group head lines close ∷ ms) k j s o a e is =
    let x : Member = group head lines close in
    let own : Foreign p file n (n + length (member_lines x)) 0 (member_declares file n x k) = member_foreign p file n x k o.0 tt in
    behind_other p file n x ms k s own
    (members_found p file home m (behind_member at x) (past (last_line x) cs) (n + length (member_lines x)) ms
    (numbers_behind k (member_declares file n x k)) j s o.1 (omega (arith, a)) e (omega (arith, is, own.procs)))
members_found p file home m at cs n (proc head body close ∷ ms) k zero s o a e is =
    let here : Site = record { home = home; source_module = m; placed = place_member at cs (proc head body close); head = head; body = body; close = close } in
    let it : here ≡ s = same_Some here s e in
    before_others p file n head body close ms k s (ap first_statement (sym it) ∙ ap suc a) (ap (λ (x : Site). x.body) (sym it)) o.0 o.1 (omega (arith, is))
members_found p file home m at cs n (proc head body close ∷ ms) k (suc j) s o a e is =
    let x : Member = proc head body close in
    let own : Foreign p file n (n + length (member_lines x)) 1 (member_declares file n x k) =
    member_foreign p file n x k o.0 (more p k.procs (omega (arith, is))) in
    behind_other p file n x ms k s own
    (members_found p file home m (behind_member at x) (past (last_line x) cs) (n + length (member_lines x)) ms
    (numbers_behind k (member_declares file n x k)) j s o.1 (omega (arith, a)) e (omega (arith, is, own.procs)))

-- ---- a project

abbrev AreOrderlyIn : List Module → Type 0
AreOrderlyIn ms = Each (λ (m : Module). Each (IsOrderly m.file) m.members) ms

-- of another file
pub record IsElsewhere (p file : ℕ) (s : Slot) : Type 0 where
  pub other : nat_eq s.file file ≡ false
  pub foreign : is_local_of p s.owner ≡ false

elsewhere_away : (p file n count : ℕ) (s : Slot) → IsElsewhere p file s → IsAway p file n count s
elsewhere_away p file n count s h = record { misses = λ j l u. first_false (nat_eq s.file file) (nat_eq s.statement j) h.other; foreign = h.foreign }

pub record Apart (p file count : ℕ) (d : Lists) : Type 0 where
  pub slots : Each (IsElsewhere p file) (slots_in d)
  pub procs : length d.procs ≡ count

nothing_apart : (p file : ℕ) (k : Numbers) → Apart p file 0 (nothing k)
unfolding nothing
nothing_apart p file k = record { slots = tt; procs = refl }

of_module : (p file other low : ℕ) (ss : List Slot) → nat_eq other file ≡ false → Each (IsBehind p other low) ss → Each (IsElsewhere p file) ss
of_module p file other low ss ne h =
    each_from (IsBehind p other low) (IsElsewhere p file)
    (λ s w. record { other = ap (λ (f : ℕ). nat_eq f file) w.1.is_file ∙ ne; foreign = w.1.foreign }) ss h

modules_apart : (p file : ℕ) (ms : List Module) (k : Numbers) → AreOrderlyIn ms → Each (λ (m : Module). nat_eq m.file file ≡ false) ms → IsNone p k.procs (count_of ms)
    → Apart p file (count_of ms) (project_declares ms k)
modules_apart p file [] k o d h = nothing_apart p file k
modules_apart p file (m ∷ ms) k o d h =
    let f : Declares = module_declares m.file 0 m.members in
    let g : Declares = project_declares ms in
    let k1 : Numbers = numbers_behind k (f k) in
    let own : Others p m.file 0 (count_in m.members) (f k) =
    members_others p m.file 0 m.members k o.0 (λ q l u. h q l (omega (arith, u))) in
    let rest : Apart p file (count_of ms) (g k1) =
    modules_apart p file ms k1 o.1 d.1 (λ q l u. h q (omega (arith, l, own.procs)) (omega (arith, u, own.procs))) in
    record {
      slots = subst (λ (x : List Slot). Each (IsElsewhere p file) x) (sym (slots_follow f g k))
          (each_append (IsElsewhere p file) (slots_in (f k)) (slots_in (g k1)) (of_module p file m.file 0 (slots_in (f k)) d.0 own.slots) rest.slots);
      procs = omega (arith, procs_follow f g k, own.procs, rest.procs);
    }

-- an item of two lists in a row
split_at : {X : Type 0} (xs ys : List X) (j : ℕ) (x : X) → slice_get (xs ++ ys) j ≡ Some x
    → ((slice_get xs j ≡ Some x) × (j < length xs)) ⊎ ((i : ℕ) × (j ≡ length xs + i) × (slice_get ys i ≡ Some x))
split_at [] ys j x e = inr (j, omega arith, e)
split_at (y ∷ xs) ys zero x e = inl (e, omega arith)
split_at (y ∷ xs) ys (suc j) x e = by (split_at xs ys j x e)
  where
    by : ((slice_get xs j ≡ Some x) × (j < length xs)) ⊎ ((i : ℕ) × (j ≡ length xs + i) × (slice_get ys i ≡ Some x))
        → ((slice_get xs j ≡ Some x) × (suc j < length (y ∷ xs))) ⊎ ((i : ℕ) × (suc j ≡ length (y ∷ xs) + i) × (slice_get ys i ≡ Some x))
    by (inl h) = inl (h.0, omega (arith, h.1))
    by (inr h) = inr (h.0, omega (arith, h.1), h.2)

-- sites stand in the files of their modules
sites_in : (home : ℕ) (m : Module) (ps : List Placed) → Each (λ (s : Site). s.source_module ≡ m) (sites_at home m ps)
sites_in home m [] = tt
sites_in home m (p ∷ ps) = each_append (λ (s : Site). s.source_module ≡ m) (member_sites home m p p.member) (sites_at home m ps) (own p.member) (sites_in home m ps)
  where
    own : (x : Member) → Each (λ (s : Site). s.source_module ≡ m) (member_sites home m p x)
    own (alone l) = tt
    own (group head lines close) = tt
    own (proc head body close) = (refl, tt)

sites_counted : (home : ℕ) (m : Module) (at : Standing) (cs : List Comment) (ms : List Member) → length (sites_at home m (placed_members at cs ms)) ≡ count_in ms
sites_counted home m at cs [] = refl
sites_counted home m at cs (alone l ∷ ms) = sites_counted home m (behind_member at (alone l)) (past (last_line (alone l)) cs) ms ∙ omega arith
sites_counted home m at cs (group head lines close ∷ ms) =
    sites_counted home m (behind_member at (group head lines close)) (past (last_line (group head lines close)) cs) ms ∙ omega arith
sites_counted home m at cs (proc head body close ∷ ms) =
    ap suc (sites_counted home m (behind_member at (proc head body close)) (past (last_line (proc head body close)) cs) ms) ∙ omega arith

-- files of sites are files of modules
site_files : (P : ℕ → Type 0) (home : ℕ) (at : Standing) (ms : List Module) → Each (λ (m : Module). P m.file) ms → Each (λ (s : Site). P s.source_module.file) (sites_from home at ms)
site_files P home at [] h = tt
site_files P home at (m ∷ ms) h =
    each_append (λ (s : Site). P s.source_module.file) (module_sites home at m) (sites_from (suc home) (next_module (behind_members at m.members)) ms)
    (each_from (λ (s : Site). s.source_module ≡ m) (λ (s : Site). P s.source_module.file) (λ s e. subst (λ (x : Module). P x.file) (sym e) h.0)
    (module_sites home at m) (sites_in home m (placed_members at m.comments m.members)))
    (site_files P (suc home) (next_module (behind_members at m.members)) ms h.1)

pub swapped : (a b : ℕ) → nat_eq a b ≡ false → nat_eq b a ≡ false
swapped a b h = grind (arith, nat_tests)

pub modules_found : (p home : ℕ) (at : Standing) (ms : List Module) (k : Numbers) (j : ℕ) (s : Site) → AreOrderlyIn ms → HaveDifferentFiles ms → at.statement ≡ 0
    → slice_get (sites_from home at ms) j ≡ Some s → p ≡ k.procs + j
    → Stretch p s.source_module.file declares (first_statement s) (site_lines s) (slots_in (project_declares ms k))
modules_found p home at [] k j s o d a e is = absurd (none-some s e)
modules_found p home at (m ∷ ms) k j s o d a e is =
    by (split_at (module_sites home at m) rest_sites j s e) (λ i h q. modules_found p (suc home) (next_module (behind_members at m.members)) ms k1 i s o.1 d.1 refl h q)
  where
    rest_sites : List Site
    rest_sites = sites_from (suc home) (next_module (behind_members at m.members)) ms

    f : Declares
    f = module_declares m.file 0 m.members

    g : Declares
    g = project_declares ms

    k1 : Numbers
    k1 = numbers_behind k (f k)

    counted : length (module_sites home at m) ≡ count_in m.members
    counted = sites_counted home m at m.comments m.members

    own_module : (own : Found p m.file 0 s (count_in m.members) (f k)) → j < length (module_sites home at m)
        → Stretch p m.file declares (first_statement s) (site_lines s) (slots_in (follow f g k))
    own_module own low =
        let rest : Apart p m.file (count_of ms) (g k1) =
        modules_apart p m.file ms k1 o.1 (each_from (λ (x : Module). nat_eq m.file x.file ≡ false) (λ (x : Module). nat_eq x.file m.file ≡ false) (λ x h. swapped m.file x.file h) ms d.0)
        (λ q l u. less p q (omega (arith, l, is, low, counted, own.procs))) in
        subst (λ (x : List Slot). Stretch p m.file declares (first_statement s) (site_lines s) x) (sym (slots_follow f g k))
        (stretch_before p m.file declares (first_statement s) (site_lines s) (slots_in (f k)) (slots_in (g k1)) own.stretch
        (each_from (IsElsewhere p m.file) (IsAway p m.file (first_statement s) (length (site_lines s)))
        (λ x w. elsewhere_away p m.file (first_statement s) (length (site_lines s)) x w) (slots_in (g k1)) rest.slots))

    other_module : (own : Others p m.file 0 (count_in m.members) (f k)) → nat_eq m.file s.source_module.file ≡ false
        → Stretch p s.source_module.file declares (first_statement s) (site_lines s) (slots_in (g k1))
        → Stretch p s.source_module.file declares (first_statement s) (site_lines s) (slots_in (follow f g k))
    other_module own ne rest =
        let file : ℕ = s.source_module.file in
        subst (λ (x : List Slot). Stretch p file declares (first_statement s) (site_lines s) x) (sym (slots_follow f g k))
        (stretch_behind p file declares (first_statement s) (site_lines s) (slots_in (f k)) (slots_in (g k1))
        (each_from (IsElsewhere p file) (IsAway p file (first_statement s) (length (site_lines s)))
        (λ x w. elsewhere_away p file (first_statement s) (length (site_lines s)) x w) (slots_in (f k)) (of_module p file m.file 0 (slots_in (f k)) ne own.slots))
        rest)

    next : (i : ℕ) → j ≡ length (module_sites home at m) + i → Others p m.file 0 (count_in m.members) (f k) → p ≡ k1.procs + i
    next i e own = omega (arith, e, is, counted, own.procs)

    before : (i : ℕ) → j ≡ length (module_sites home at m) + i → Others p m.file 0 (count_in m.members) (f k)
    before i e = members_others p m.file 0 m.members k o.0 (λ q l u. more p q (omega (arith, u, e, is, counted)))

    by : ((slice_get (module_sites home at m) j ≡ Some s) × (j < length (module_sites home at m))) ⊎ ((i : ℕ) × (j ≡ length (module_sites home at m) + i) × (slice_get rest_sites i ≡ Some s))
        → ((i : ℕ) → slice_get rest_sites i ≡ Some s → p ≡ k1.procs + i → Stretch p s.source_module.file declares (first_statement s) (site_lines s) (slots_in (g k1)))
        → Stretch p s.source_module.file declares (first_statement s) (site_lines s) (slots_in (follow f g k))
    by (inl h) go =
        subst (λ (x : Module). Stretch p x.file declares (first_statement s) (site_lines s) (slots_in (follow f g k)))
        (sym (each_got (λ (x : Site). x.source_module ≡ m) (module_sites home at m) j s h.0 (sites_in home m (placed_members at m.comments m.members))))
        (own_module (members_found p m.file home m at m.comments 0 m.members k j s o.0 a h.0 is) h.1)
    by (inr h) go =
        other_module (before h.0 h.1)
        (each_got (λ (x : Site). nat_eq m.file x.source_module.file ≡ false) rest_sites h.0 s h.2
        (site_files (λ (file : ℕ). nat_eq m.file file ≡ false) (suc home) (next_module (behind_members at m.members)) ms d.0))
        (go h.0 h.2 (next h.0 h.1 (before h.0 h.1)))
