-- Frames that match go on to match at a later world, and at another line.
use Rattle.std.proofs.Common.{◌≡◌, ◌∙◌, refl, sym, ap, subst, ℕ, suc, ◌<◌, Bool, true, false, cond, not, nat_eq, eqb-true, Option, Some, None, option_map, List, slice_get}
use Rattle.vb_tree.specs.Tree.{Form}
use Rattle.bound_tree.specs.Tree.{Expr, Line}
use Rattle.run_base.specs.Frames.{Handler, Frame, Kept, keeps_address, keeping}
use Rattle.run_base.specs.Machines.{nth_line}
use Rattle.run_base.specs.Positions.{Root, whole, updated_at}
use Rattle.vb6_run.specs.Shapes.{variable_shape}
use Rattle.vb6_run.specs.Store.{Address, SourceFrame}
use Rattle.vb6_run.specs.Values.{Value}
use Rattle.net_run.specs.Lines.{NetFrame}
use Rattle.net_run.specs.Members.{Code}
use Rattle.net_run.specs.Store as net
use Rattle.net_run.specs.Values as net_value
use Rattle.run_matches.specs.Upgrades.{Upgrade, code_of}
use Rattle.run_matches.specs.Maps.{World, Below, Extends, mark}
use Rattle.run_matches.specs.Match.{MemoryMatch}
use Rattle.run_matches.specs.Pledges.{Pledge, Later}
use Rattle.run_matches.specs.Addresses.{IsInPlace, KeptMatch}
use Rattle.run_matches.specs.CoveredLines.{covers_line, is_with}
use Rattle.run_matches.specs.Frames.{SameVariable, SameStatic, HasNames, HasPlace, KeepsPlace, KeptBy, FrameMatch, IsOwnAddress, OwnsAll, is_exact_head, is_own_line, lines_of, is_mirrored}
use Rattle.agreeing_laws.proofs.Made.{more, below_then, same_at}
use Rattle.agreeing_laws.proofs.Moves.{all_matched_later, all_ranked_later, matched_whole, locks_later}
use Rattle.agreeing_laws.proofs.OwnObjects.{own_object_later}
use Rattle.line_laws.proofs.Bounds.{bound_made, bound_later, kept_later, plain_later}
use Rattle.line_laws.proofs.KeptPlaces.{CanKeep, place_kept_later}

-- ---- later

object_stays : (w0 w1 : World) → Extends w0 w1 → (me : Option ℕ) → ((o : ℕ) → me ≡ Some o → o < w0.src.next_object)
    → option_map w1.map.objects me ≡ option_map w0.map.objects me
object_stays w0 w1 x None m = refl
object_stays w0 w1 x (Some o) m = ap (λ z. Some z) (x.same_objects o (m o refl))

static_later : (U : Upgrade) (K : Pledge) (w0 w1 : World) → Later U K w0 w1 → (v : ℕ) (r : Root) (g : NetFrame) → SameStatic U w0 v r g → SameStatic U w1 v r g
static_later U K w0 w1 l v r g s = record {
  written = s.written;
  found =
      s.found
      ∙ ap (λ p. Some (net.root s.written p))
      (sym (same_at U w0 w1 l.extends (whole r) (matched_whole U w0 (variable_shape U.program.declarations v) (whole r) s.is_matched).is_made));
  same = s.same;
  is_matched = all_matched_later U K w0 w1 l (variable_shape U.program.declarations v) (whole r) s.is_matched;
  ranked = all_ranked_later U K w0 w1 l (variable_shape U.program.declarations v) s.written (whole r) s.is_matched s.ranked;
}

place_later : (U : Upgrade) (w0 w1 : World) (v : ℕ) (a : Address) → Extends w0 w1 → Below (mark w0.src) (mark w1.src)
    → HasPlace U w0 v a → HasPlace U w1 v a
place_later U w0 w1 v a x b o = record {
  place = o.place;
  stands = o.stands;
  is_made = more o.place w0.src.next w1.src.next b.places o.is_made;
  declared = x.same_declared o.place o.is_made ∙ o.declared;
}

module _ (U : Upgrade) (K : Pledge) where
  variable_later : (w0 w1 : World) → MemoryMatch U w0 → Later U K w0 w1 → (v : ℕ) (a : Address) (g : NetFrame)
      → SameVariable U K w0 v a g → SameVariable U K w1 v a g
  variable_later w0 w1 h l v a g s = record {
    address = s.address;
    found = s.found;
    bound = bound_later U K w0 w1 h l (not (is_mirrored U v)) a s.address s.bound;
    ranked = s.ranked;
    plain = λ e.
        plain_later U w0 w1 a l.extends
        (λ q at. bound_made U K w0 (not (is_mirrored U v)) a s.address h s.bound q at) (s.plain e);
  }

  -- frames that match go on to match
  pub frame_later : (w0 w1 : World) (p : ℕ) (f : SourceFrame) (g : NetFrame) → MemoryMatch U w0 → Later U K w0 w1 → FrameMatch U K w0 p f g
      → FrameMatch U K w1 p f g
  frame_later w0 w1 p f g h l F = record {
    line = F.line;
    handler = F.handler;
    active = F.active;
    resume = F.resume;
    me = F.me ∙ sym (object_stays w0 w1 l.extends f.me F.me_made);
    me_made = λ o e. more o w0.src.next_object w1.src.next_object l.grows.objects (F.me_made o e);
    own_object = own_object_later U K w0 w1 p f.me l F.own_object;
    names = F.names;
    vars = λ v a e s. variable_later w0 w1 h l v a g (F.vars v a e s);
    statics = λ v r e s. static_later U K w0 w1 l v r g (F.statics v r e s);
    own = λ v a e o. place_later U w0 w1 v a l.extends l.grows (F.own v a e o);
    own_heads = F.own_heads;
    kept = λ i. kept_later U K w0 w1 h l (is_exact_head U (nth_line (lines_of U p) i)) (f.kept i) (g.kept i) (F.kept i);
    covered_heads = F.covered_heads;
    covered_withs = λ h m is covers with. place_kept_later U K w0 w1 l m.bindings.exprs (f.kept h) (g.kept h) (F.covered_withs h m is covers with);
    has_locals = F.has_locals;
    has_passing = F.has_passing;
    locks = locks_later U K w0 w1 f.env l F.locks;
    low = below_then K.base (mark w0.src) (mark w1.src) F.low l.grows;
  }

-- ---- at another line

-- a frame with another line and another state of its handling of errors
abbrev pub placed : {N V A E : Type 0} → ℕ → Handler → Bool → ℕ → Frame N V A E → Frame N V A E
placed n h active resume f = record f { line = n; handler = h; active = active; resume = resume }

names_placed : (o : Option Code) (n : ℕ) (h : Handler) (t : Bool) (r : ℕ) (g : NetFrame) → HasNames o g → HasNames o (placed n h t r g)
names_placed None n h t r g m = m
names_placed (Some c) n h t r g m = m

pub frame_placed : (U : Upgrade) (K : Pledge) (w : World) (p : ℕ) (f : SourceFrame) (g : NetFrame) (n m : ℕ) (h i : Handler) (t u : Bool) (r s : ℕ)
    → m ≡ n → i ≡ h → u ≡ t → s ≡ r → FrameMatch U K w p f g → FrameMatch U K w p (placed n h t r f) (placed m i u s g)
frame_placed U K w p f g n m h i t u r s a b c d F = record {
  line = a;
  handler = b;
  active = c;
  resume = d;
  me = F.me;
  me_made = F.me_made;
  own_object = F.own_object;
  names = names_placed (code_of U p) m i u s g F.names;
  vars = λ v a e s. let x = F.vars v a e s in record { address = x.address; found = x.found; bound = x.bound; ranked = x.ranked; plain = x.plain };
  statics = λ v r e s.
      let x = F.statics v r e s in
      record { written = x.written; found = x.found; same = x.same; is_matched = x.is_matched; ranked = x.ranked };
  own = F.own;
  own_heads = F.own_heads;
  kept = F.kept;
  covered_heads = F.covered_heads;
  covered_withs = F.covered_withs;
  has_locals = F.has_locals;
  has_passing = F.has_passing;
  locks = F.locks;
  low = F.low;
}

-- ---- with what the head at its line keeps

abbrev pub KeptHere : Upgrade → Pledge → (procedure : ℕ) → SourceFrame → World → Kept Value Address → Kept net_value.Value net.Address → Type 0
KeptHere U K p f w x y = (l : Line) → nth_line (lines_of U p) f.line ≡ Some l → CanKeep U K p f w l.source.form l.bindings.exprs x y

module _ (U : Upgrade) (K : Pledge) (w : World) (p : ℕ) (f : SourceFrame) (g : NetFrame) (x : Kept Value Address) (y : Kept net_value.Value net.Address)
    (matched : (exact : Bool) → KeptMatch U K w exact x y) (is_here : KeptHere U K p f w x y) (F : FrameMatch U K w p f g) where
  names_kept : (o : Option Code) (m : ℕ) → HasNames o g → HasNames o (keeping y m g)
  names_kept None m h = h
  names_kept (Some c) m h = h

  kept_by : (b exact : Bool) (k : Kept Value Address) (j : Kept net_value.Value net.Address) → KeptMatch U K w exact k j
      → KeptMatch U K w exact (cond b x k) (cond b y j)
  kept_by true exact k j h = matched exact
  kept_by false exact k j h = h

  at_line : (h : ℕ) (l : Line) → nat_eq f.line h ≡ true → nth_line (lines_of U p) h ≡ Some l → CanKeep U K p f w l.source.form l.bindings.exprs x y
  at_line h l e is = is_here l (ap (nth_line (lines_of U p)) (eqb-true f.line h e) ∙ is)

  in_place_by : (b : Bool) (h : ℕ) → nat_eq f.line (suc h) ≡ b → (l : Line) (a : Address) → slice_get (lines_of U p) h ≡ Some l → is_own_line U p l ≡ true
      → cond b x (f.kept (suc h)) ≡ keeps_address a → IsInPlace a
  in_place_by true h e l a is own k = (at_line (suc h) l e is).in_place a own k
  in_place_by false h e l a is own k = F.own_heads h l a is own k

  by_line : (b : Bool) (h : ℕ) → nat_eq f.line h ≡ b → (l : Line) → nth_line (lines_of U p) h ≡ Some l → covers_line U.program p l ≡ true
      → KeptBy f.vars l.source.form l.bindings.exprs (cond b x (f.kept h)) (cond b y (g.kept h))
  by_line true h e l is covers = (at_line h l e is).by
  by_line false h e l is covers = F.covered_heads h l is covers

  place_by : (b : Bool) (h : ℕ) → nat_eq f.line h ≡ b → (l : Line) → nth_line (lines_of U p) h ≡ Some l → covers_line U.program p l ≡ true
      → is_with l.source.form ≡ true → KeepsPlace U K w l.bindings.exprs (cond b x (f.kept h)) (cond b y (g.kept h))
  place_by true h e l is covers with = (at_line h l e is).place with
  place_by false h e l is covers with = F.covered_withs h l is covers with

  pub frame_keeping : (n m : ℕ) → m ≡ n → FrameMatch U K w p (keeping x n f) (keeping y m g)
  frame_keeping n m e = record {
    line = e;
    handler = F.handler;
    active = F.active;
    resume = F.resume;
    me = F.me;
    me_made = F.me_made;
    own_object = F.own_object;
    names = names_kept (code_of U p) m F.names;
    vars = λ v a e s. let z = F.vars v a e s in record { address = z.address; found = z.found; bound = z.bound; ranked = z.ranked; plain = z.plain };
    statics = λ v r e s.
        let z = F.statics v r e s in
        record { written = z.written; found = z.found; same = z.same; is_matched = z.is_matched; ranked = z.ranked };
    own = F.own;
    own_heads = λ h l a is own k. in_place_by (nat_eq f.line (suc h)) h refl l a is own k;
    kept = λ h.
        subst (λ z. KeptMatch U K w (is_exact_head U (nth_line (lines_of U p) h)) (updated_at f.kept f.line x h) (updated_at g.kept z y h)) (sym F.line)
        (kept_by (nat_eq f.line h) (is_exact_head U (nth_line (lines_of U p) h)) (f.kept h) (g.kept h) (F.kept h));
    covered_heads = λ h l is covers.
        subst (λ z. KeptBy f.vars l.source.form l.bindings.exprs (updated_at f.kept f.line x h) (updated_at g.kept z y h)) (sym F.line)
        (by_line (nat_eq f.line h) h refl l is covers);
    covered_withs = λ h l is covers with.
        subst (λ z. KeepsPlace U K w l.bindings.exprs (updated_at f.kept f.line x h) (updated_at g.kept z y h)) (sym F.line)
        (place_by (nat_eq f.line h) h refl l is covers with);
    has_locals = F.has_locals;
    has_passing = F.has_passing;
    locks = F.locks;
    low = F.low;
  }

  own_by : (b : Bool) (h : ℕ) → nat_eq f.line (suc h) ≡ b → OwnsAll U K p f → (l : Line) (a : Address) → slice_get (lines_of U p) h ≡ Some l
      → is_own_line U p l ≡ true → cond b x (f.kept (suc h)) ≡ keeps_address a → IsOwnAddress K a
  own_by true h e owns l a is own k = (at_line (suc h) l e is).own a own k
  own_by false h e owns l a is own k = owns.heads h l a is own k

  pub heads_keeping : (n : ℕ) → OwnsAll U K p f → OwnsAll U K p (keeping x n f)
  heads_keeping n owns = record {
    variables = owns.variables;
    heads = λ h l a is own k. own_by (nat_eq f.line (suc h)) h refl owns l a is own k;
  }

-- a line of a form may keep something, and go on so
abbrev pub Keeps : Upgrade → Pledge → (procedure : ℕ) → SourceFrame → NetFrame → (World → SourceFrame → NetFrame → Type 0) → World → Form → List Expr → Type 0
Keeps U K p f g R w form es =
    (x : Kept Value Address) (y : Kept net_value.Value net.Address) (n m : ℕ) → m ≡ n → (w1 : World) → Later U K w w1
    → ((exact : Bool) → KeptMatch U K w1 exact x y) → CanKeep U K p f w1 form es x y → R w1 (keeping x n f) (keeping y m g)
