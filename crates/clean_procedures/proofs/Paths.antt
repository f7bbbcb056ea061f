-- Paths of arrows as chains of pairs of numbers.
use Rattle.std.proofs.Common.{◌≡◌, ℕ, Bool, true, false, List, map, refl, ap, sym, subst, ◌∙◌, inl, inr, ⊎_elim}
use Rattle.std.specs.Prelude.{◌⊎◌}
use Rattle.std.specs.List.{Contains}
use Rattle.reach_table.specs.Chains.{Chain, empty, longer}
use Rattle.bound_tree.specs.declared.marks.Marks.{Marks}
use Rattle.bound_tree.specs.Tree.{Program}
use Rattle.bound_facts.specs.Clean.{Arrow, Point, procedure, arrows, Path, stays, goes, point_broken}
use Rattle.clean_procedures.specs.Broken.{broken_points}
use Rattle.clean_procedures.specs.Numbers.{number, number_arrow}
use Rattle.clean_procedures.specs.Pairs.{all_pairs}
use Rattle.clean_procedures.specs.Reaching.{LeadTo}
use Rattle.clean_procedures.proofs.Among.{Among, among, contains, among_map, map_among, among_in, in_among}
use Rattle.clean_procedures.proofs.Ends.{link_joins, option_ends}
use Rattle.clean_procedures.proofs.Links.{links, pairs_are}
use Rattle.clean_procedures.proofs.Numbering.{is_numbered, same_point}
use Rattle.clean_procedures.proofs.Points.{Cause, broken_is_in, cause_of, option_is_in}
use Rattle.clean_procedures.proofs.Split.{arrow_is, link_is, option_arrows, option_is}

-- ---- a chain is a path

abbrev Reaches : Program → Point → ℕ → Type 0
Reaches P a m = (b : Point) × (number b ≡ m) × (is_numbered b ≡ true) × Path (arrows P) a b

one_more : (P : Program) (a b : Point) (l : Arrow) → Among (links P) l → number l.0 ≡ number b → is_numbered b ≡ true → Path (arrows P) a b → Path (arrows P) a l.1
one_more P a b l h e k path =
    let same = same_point l.0 b k e in
    goes a b l.1 path (subst (λ (p : Point). Contains (arrows P) (p, l.1)) same (contains (arrows P) l (link_is P l h)))

pub chain_path : (P : Program) (a : Point) {n m : ℕ} → Chain (all_pairs P) n m → is_numbered a ≡ true → number a ≡ n → Reaches P a m
chain_path P a (empty n) h e = (a, e, h, stays a)
chain_path P a (longer n k m before last) h e =
    let b = chain_path P a before h e in
    let q = among_map number_arrow (links P) (k, m) (subst (λ (ps : List (ℕ × ℕ)). Among ps (k, m)) (pairs_are P) (among (all_pairs P) (k, m) last)) in
    let from : number q.0.0 ≡ number b.0 = ap (λ (p : ℕ × ℕ). p.0) q.2 ∙ sym b.1 in
    (q.0.1, ap (λ (p : ℕ × ℕ). p.1) q.2, (link_joins P q.0 q.1).1, one_more P a b.0 q.0 q.1 from b.2 b.3)

-- ---- a path is a chain, and perhaps an arrow to an Option or a Def line

abbrev IsChain : Program → Point → Point → Type 0
IsChain P a q = (is_numbered q ≡ true) × Chain (all_pairs P) (number a) (number q)

abbrev ThenArrow : Program → Point → Point → Type 0
ThenArrow P a q = (b : Point) × Chain (all_pairs P) (number a) (number b) × Among (option_arrows P.declarations) (b, q)

true_false : (b : Bool) → b ≡ true → b ≡ false → ⊥
true_false b e f = absurd (cc (e, f))

link_pair : (P : Program) (l : Arrow) → Among (links P) l → Contains (all_pairs P) (number l.0, number l.1)
link_pair P l h = contains (all_pairs P) (number_arrow l) (subst (λ (ps : List (ℕ × ℕ)). Among ps (number_arrow l)) (sym (pairs_are P)) (map_among number_arrow (links P) l h))

source_numbered : (P : Program) (b c : Point) → Among (arrows P) (b, c) → is_numbered b ≡ true
source_numbered P b c h = ⊎_elim (λ l. (link_joins P (b, c) l).0) (λ o. (option_ends P.declarations (b, c) o).0) (arrow_is P (b, c) h)

pub path_chain : (P : Program) {a q : Point} → Path (arrows P) a q → is_numbered a ≡ true → IsChain P a q ⊎ ThenArrow P a q
path_chain P (stays a) h = inl (h, empty (number a))
path_chain P (goes a b c path last) h =
    let arrow = among (arrows P) (b, c) last in
    ⊎_elim
    (λ chain. ⊎_elim
    (λ l. inl ((link_joins P (b, c) l).1, longer (number a) (number b) (number c) chain.1 (link_pair P (b, c) l)))
    (λ o. inr (b, chain.1, o)) (arrow_is P (b, c) arrow))
    (λ other. absurd (true_false (is_numbered b) (source_numbered P b c arrow) (option_ends P.declarations (other.0, b) other.2).1)) (path_chain P path h)

-- ---- what leads to a point that breaks a rule

abbrev pub IsDirty : Program → List Marks → ℕ → Type 0
IsDirty P ms p = (m : Marks) × (q : Point) × Among ms m × Path (arrows P) (procedure p) q × (point_broken P.declarations m q ≡ true)

abbrev numbers : Program → List Marks → List ℕ
numbers P ms = map number (broken_points P.declarations ms)

leads : (P : Program) (ms : List Marks) (p : ℕ) (b : Point) → Chain (all_pairs P) (number (procedure p)) (number b) → Among (broken_points P.declarations ms) b
    → LeadTo (all_pairs P) (numbers P ms) (number (procedure p))
leads P ms p b chain h = (number b, among_in (numbers P ms) (number b) (map_among number (broken_points P.declarations ms) b h), chain)

pub dirty_leads : (P : Program) (ms : List Marks) (p : ℕ) → IsDirty P ms p → LeadTo (all_pairs P) (numbers P ms) (number (procedure p))
dirty_leads P ms p d =
    let D = P.declarations in
    ⊎_elim (λ c. leads P ms p d.1 c.1 (broken_is_in D ms d.0 d.1 d.2 c.0 d.4)) (λ t. leads P ms p t.0 t.1 (option_is_in D ms d.0 (t.0, d.1) t.2 d.4)) (path_chain P d.3 refl)

caused : (P : Program) (ms : List Marks) (p : ℕ) (b : Point) → Path (arrows P) (procedure p) b → Cause P.declarations ms b → IsDirty P ms p
caused P ms p b path c =
    let to : Path (arrows P) (procedure p) c.broken =
    ⊎_elim (λ e. subst (λ (q : Point). Path (arrows P) (procedure p) q) (sym e) path) (λ o. goes (procedure p) b c.broken path (contains (arrows P) (b, c.broken) (option_is P (b, c.broken) o))) c.leads in
    (c.marks, c.broken, c.stands, to, c.is_broken)

pub leads_dirty : (P : Program) (ms : List Marks) (m : Marks) (p : ℕ) → Among ms m → LeadTo (all_pairs P) (numbers P ms) (number (procedure p)) → IsDirty P ms p
leads_dirty P ms m p a l =
    let b = chain_path P (procedure p) l.2 refl refl in
    let q = among_map number (broken_points P.declarations ms) l.0 (in_among (numbers P ms) l.0 l.1) in
    let cause = cause_of P.declarations ms m q.0 a q.1 in
    let same = same_point b.0 q.0 cause.numbered (b.1 ∙ sym q.2) in
    caused P ms p q.0 (subst (λ (r : Point). Path (arrows P) (procedure p) r) same b.3) cause
