-- What holds of what is made of a line, where the line is taken; and how lines end.
use Rattle.std.proofs.Common.{◌≡◌, ℕ, ◌*◌, Bool, true, false, cond, ◌&&◌, ap, List, [], ◌∷◌, ◌++◌, replicate, refl, subst, Option, Some, None}
use Rattle.std.specs.Prelude.{IfSome, option_and_then, option_map}
use Rattle.std.specs.Cmp.Lexicographic.{bytes_decides}
use Rattle.up_base.specs.LineEnd.{line_end}
use Rattle.net_tree.specs.Spelling.{at_depth, is_same_text}
use Rattle.net_exprs.proofs.Words.{both_true, by_test, never}
use Rattle.net_reader.specs.ModuleReader.{is_line, taken}
use Rattle.net_reader.proofs.FileCuts.{ends_line}

-- ---- ends

pub ends_behind : (a b : List ℕ) → ends_line b ≡ true → ends_line (a ++ b) ≡ true
ends_behind [] b h = h
ends_behind (c ∷ []) [] h = never h
ends_behind (c ∷ []) (d ∷ b) h = h
ends_behind (c ∷ d ∷ a) b h = ends_behind (d ∷ a) b h

pub depth_ends : (depth : ℕ) (text : List ℕ) → ends_line (at_depth depth text) ≡ true
depth_ends depth text = ends_behind (replicate (4 * depth) 32 ++ text) line_end refl

-- ---- what is made

pub if_makes : {B : Type 0} (Q : B → Type 0) (b : Bool) (x y : Option B) → (b ≡ true → IfSome x Q) → (b ≡ false → IfSome y Q) → IfSome (cond b x y) Q
if_makes Q true x y h k = h refl
if_makes Q false x y h k = k refl

pub map_makes : {A B : Type 0} (f : A → B) (P : A → Type 0) (Q : B → Type 0) → ((x : A) → P x → Q (f x)) → (o : Option A) → IfSome o P → IfSome (option_map f o) Q
map_makes f P Q each None h = tt
map_makes f P Q each (Some x) h = each x h

pub then_makes : {A B : Type 0} (f : A → Option B) (Q : B → Type 0) → ((x : A) → IfSome (f x) Q) → (o : Option A) → IfSome (option_and_then f o) Q
then_makes f Q each None = tt
then_makes f Q each (Some x) = each x

-- what is taken passes its test, and the line is what is written for it
pub found_makes : {A B : Type 0} (passes : A → Bool) (written : A → List ℕ) (f : A → B) (Q : A → Type 0) (P : List ℕ → B → Type 0) →
    ((x : A) → Q x → passes x ≡ true → P (written x) (f x)) → (line : List ℕ) (found : Option A) → IfSome found Q →
    IfSome (option_map f (taken passes written line found)) (P line)
found_makes passes written f Q P each line None q = tt
found_makes passes written f Q P each line (Some x) q =
    by_test (passes x && is_same_text (written x) line) (λ b. IfSome (option_map f (cond b (Some x) None)) (P line))
    (λ h. let both = both_true (passes x) (is_same_text (written x) line) h in
    subst (λ l. P l (f x)) ((bytes_decides (written x) line).0 both.1) (each x q both.0)) (λ h. tt)

pub any_found : {A : Type 0} (found : Option A) → IfSome found (λ x. Unit {0})
any_found None = tt
any_found (Some x) = tt

pub taken_makes : {A B : Type 0} (passes : A → Bool) (written : A → List ℕ) (f : A → B) (P : List ℕ → B → Type 0) →
    ((x : A) → passes x ≡ true → P (written x) (f x)) → (line : List ℕ) (found : Option A) → IfSome (option_map f (taken passes written line found)) (P line)
taken_makes {A = A} passes written f P each line found =
    found_makes passes written f (λ (x : A). Unit {0}) P (λ x q h. each x h) line found (any_found found)

-- where a line is a text at a depth
pub line_makes : {B : Type 0} (P : List ℕ → B → Type 0) (depth : ℕ) (text line : List ℕ) (x : B) (y : Option B) →
    P (at_depth depth text) x → IfSome y (P line) → IfSome (cond (is_line depth text line) (Some x) y) (P line)
line_makes P depth text line x y h k =
    if_makes (P line) (is_line depth text line) (Some x) y (λ t. subst (λ l. P l x) ((bytes_decides (at_depth depth text) line).0 t) h) (λ t. k)

-- the same, where a test passes too
pub line_too_makes : {B : Type 0} (P : List ℕ → B → Type 0) (b : Bool) (depth : ℕ) (text line : List ℕ) (x : B) →
    (b ≡ true → P (at_depth depth text) x) → IfSome (cond (b && is_line depth text line) (Some x) None) (P line)
line_too_makes P b depth text line x h =
    if_makes (P line) (b && is_line depth text line) (Some x) None
    (λ t. let both = both_true b (is_line depth text line) t in
    subst (λ l. P l x) ((bytes_decides (at_depth depth text) line).0 both.1) (h both.0)) (λ t. tt)

-- ---- the same as equations

pub is_written : (depth : ℕ) (text line : List ℕ) → is_line depth text line ≡ true → at_depth depth text ≡ line
is_written depth text line h = (bytes_decides (at_depth depth text) line).0 h

pub if_some : {A : Type 0} (b : Bool) (x y : A) → cond b (Some x) Option.None ≡ Some y → (b ≡ true) × (x ≡ y)
if_some true x y h = (refl, cc h)
if_some false x y h = absurd (cc h)

-- what was taken of a line
pub record WasTaken {A : Type 0} (passes : A → Bool) (written : A → List ℕ) (line : List ℕ) (found : Option A) (x : A) : Type 0 where
  pub is : found ≡ Some x
  pub passed : passes x ≡ true
  pub same : written x ≡ line

pub was_taken : {A : Type 0} (passes : A → Bool) (written : A → List ℕ) (line : List ℕ) (found : Option A) (x : A) → taken passes written line found ≡ Some x → WasTaken passes written line found x
was_taken passes written line Option.None x h = absurd (cc h)
was_taken passes written line (Some y) x h =
    let found = if_some (passes y && is_same_text (written y) line) y x h in
    let both = both_true (passes y) (is_same_text (written y) line) found.0 in
    record { is = ap (λ z. Some z) found.1; passed = subst (λ z. passes z ≡ true) found.1 both.0; same = subst (λ z. written z ≡ line) found.1 ((bytes_decides (written y) line).0 both.1) }

pub record Mapped {A B : Type 0} (f : A → B) (found : Option A) (y : B) : Type 0 where
  pub item : A
  pub is : found ≡ Some item
  pub gives : f item ≡ y

pub mapped : {A B : Type 0} (f : A → B) (found : Option A) (y : B) → option_map f found ≡ Some y → Mapped f found y
mapped f Option.None y h = absurd (cc h)
mapped f (Some x) y h = record { item = x; is = refl; gives = cc h }
