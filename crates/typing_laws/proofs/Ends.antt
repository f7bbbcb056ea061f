-- Computations that keep the types of what stands, one after another.
use Rattle.std.proofs.Common.{◌≡◌, refl, sym, ◌∙◌, subst, ℕ, ◌≤◌, arith, List}
use Rattle.vb_tree.specs.BoundTree.{Ty}
use Rattle.run_base.specs.Outcomes.{Output, Outcome, gives, raises, spent, outside, after, then}
use Rattle.vb6_run.specs.Shapes.{Shape, variable_shape}
use Rattle.vb6_run.specs.Store.{Memory}
use Rattle.typing_laws.specs.Plain.{Holds}
use Rattle.typing_laws.specs.Frames.{Fills, Ground, IsBlankStatic, IsSound, Keeps, Stands, shared_place}
use Rattle.run_base.specs.Positions.{Position}
use Rattle.run_matches.specs.Maps.{IsMade, mark}
use Rattle.typing_laws.proofs.Places.{at, fills_by, made_later}

-- what nothing stands at holds what it held
then_others : (K : Ground) (w v u : Memory) → Keeps K w v → Keeps K v u → (q : Position) → IsMade (mark w) q.root → ((ty : Ty) → Stands K w q ty → ⊥)
    → (IsBlankStatic K w q → ⊥) → u.held q ≡ w.held q
then_others K w v u h k q m s b =
    let same : v.held q ≡ w.held q = h.others q m s b in
    k.others q (made_later K w v h q.root m)
    (λ ty z. s ty (record { holds = subst (λ h. Holds ty h) same z.holds; made = m; allowed = z.allowed }))
    (λ z. b (record {
      number = z.number;
      variable = z.variable;
      is_variable = z.is_variable;
      static = z.static;
      flat = z.flat;
      place = z.place;
      is_blank = sym same ∙ z.is_blank;
    }))
    ∙ same

pub keeps_self : (K : Ground) (w : Memory) → Keeps K w w
keeps_self K w = record {
  places = λ q ty s. s;
  statics = λ k x is st c s. s;
  others = λ q m s b. refl;
  next = omega arith;
  objects = refl;
  classes = refl;
}

pub keeps_then : (K : Ground) (w v u : Memory) → Keeps K w v → Keeps K v u → Keeps K w u
keeps_then K w v u h k =
    let first = h.next in
    let second = k.next in
    record {
      places = λ q ty s. k.places q ty (h.places q ty s);
      statics = λ n x is st c s. k.statics n x is st c (h.statics n x is st c s);
      others = λ q m s b. then_others K w v u h k q m s b;
      next = omega (arith, first, second);
      objects = k.objects ∙ h.objects;
      classes = k.classes ∙ h.classes;
    }

pub fills_later : (K : Ground) (w v : Memory) → Keeps K w v → (q : Position) (ty : Ty) (d : Shape) → Fills K w q ty d → Fills K v q ty d
fills_later K w v k q ty d f = fills_by K K w v q (λ path t s. k.places (at q.root path) t s) ty d f

pub sound_later : (K : Ground) (w v : Memory) → Keeps K w v → IsSound K w → IsSound K v
sound_later K w v k s = record {
  modules = λ n x is m c. fills_later K w v k (shared_place n) x.ty (variable_shape K.declarations n) (s.modules n x is m c);
  statics = λ n x is st c. k.statics n x is st c (s.statics n x is st c);
  shares = s.shares;
  fresh = λ n l. s.fresh n (longer n l);
  shared_parts = s.shared_parts;
  fresh_parts = λ m x is user n path l. s.fresh_parts m x is user n path (longer n l);
}
  where
    longer : (n : ℕ) → v.next ≤ n → w.next ≤ n
    longer n l =
        let next = k.next in
        omega (arith, l, next)

-- a value of which something holds in the memory behind it, an error, or no step; what is outside has a cause
abbrev pub Ends : {A : Type 0} → Ground → (Memory → A → Type 0) → Type 0 → Memory → Outcome Memory A → Type 0
Ends K Q E w (gives o a v) = Keeps K w v × Q v a
Ends K Q E w (raises o n v) = Keeps K w v
Ends K Q E w (spent o v) = Keeps K w v
Ends K Q E w (outside o) = E

module _ {A : Type 0} (K : Ground) (Q : Memory → A → Type 0) where
  pub ends_after : (E : Type 0) (w : Memory) (o : List Output) (r : Outcome Memory A) → Ends K Q E w r → Ends K Q E w (after o r)
  ends_after E w o (gives p a v) h = h
  ends_after E w o (raises p n v) h = h
  ends_after E w o (spent p v) h = h
  ends_after E w o (outside p) h = h

  pub ends_from : (E : Type 0) (w v : Memory) (r : Outcome Memory A) → Keeps K w v → Ends K Q E v r → Ends K Q E w r
  ends_from E w v (gives p a u) k h = (keeps_then K w v u k h.0, h.1)
  ends_from E w v (raises p n u) k h = keeps_then K w v u k h
  ends_from E w v (spent p u) k h = keeps_then K w v u k h
  ends_from E w v (outside p) k h = h

  pub ends_weaker : (E F : Type 0) (w : Memory) (r : Outcome Memory A) → (E → F) → Ends K Q E w r → Ends K Q F w r
  ends_weaker E F w (gives o a v) leads h = h
  ends_weaker E F w (raises o n v) leads h = h
  ends_weaker E F w (spent o v) leads h = h
  ends_weaker E F w (outside o) leads h = leads h

  pub ends_as : (S : Memory → A → Type 0) (E : Type 0) (w : Memory) (r : Outcome Memory A) → ((v : Memory) (a : A) → Q v a → S v a) → Ends K Q E w r
      → Ends K S E w r
  ends_as S E w (gives o a v) leads h = (h.0, leads v a h.1)
  ends_as S E w (raises o n v) leads h = h
  ends_as S E w (spent o v) leads h = h
  ends_as S E w (outside o) leads h = h

pub then_ends : {A B : Type 0} (K : Ground) (Q : Memory → A → Type 0) (S : Memory → B → Type 0) (E : Type 0) (w : Memory)
    (r : Outcome Memory A) (k : A → Memory → Outcome Memory B) → Ends K Q E w r
    → ((o : List Output) (a : A) (v : Memory) → r ≡ gives o a v → Keeps K w v → Q v a → Ends K S E v (k a v)) → Ends K S E w (then r k)
then_ends K Q S E w (gives o a v) k h go =
    ends_after K S E w o (k a v) (ends_from K S E w v (k a v) h.0 (go o a v refl h.0 h.1))
then_ends K Q S E w (raises o n v) k h go = h
then_ends K Q S E w (spent o v) k h go = h
then_ends K Q S E w (outside o) k h go = h
