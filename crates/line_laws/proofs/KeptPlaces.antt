-- What a covered With keeps goes on to be a place or an object, and what the head of a block may keep.
use Rattle.std.proofs.Common.{◌≡◌, ◌∙◌, sym, ℕ, true, false, List, [], ◌∷◌, true≢false}
use Rattle.vb_tree.specs.Tree.{Form}
use Rattle.bound_tree.specs.Tree.{Expr}
use Rattle.run_base.specs.Frames.{Kept, keeps_nothing, keeps_limit, keeps_value, keeps_address}
use Rattle.vb6_run.specs.Store.{Address, SourceFrame}
use Rattle.vb6_run.specs.Values.{Value}
use Rattle.net_run.specs.Lines.{kept_address}
use Rattle.net_run.specs.Store as net
use Rattle.net_run.specs.Values as net_value
use Rattle.run_matches.specs.Addresses.{IsInPlace}
use Rattle.run_matches.specs.CoveredLines.{is_with}
use Rattle.run_matches.specs.Frames.{IsOwnAddress, KeepsPlace, KeptBy, WithPlace, is_own_head}
use Rattle.run_matches.specs.Maps.{World}
use Rattle.run_matches.specs.Pledges.{Later, Pledge}
use Rattle.run_matches.specs.Upgrades.{Upgrade}
use Rattle.agreeing_laws.specs.Promises.{Weaker}
use Rattle.agreeing_laws.proofs.Moves.{address_later, address_promised}
use Rattle.line_laws.proofs.Bounds.{plain_later, same_made}

-- ---- places

keeps_by_places : (U : Upgrade) (K L : Pledge) (w v : World)
    → ((t : ℕ) (a : Address) (b : net.Address) → WithPlace U K w t a b → WithPlace U L v t a b)
    → (es : List Expr) (x : Kept Value Address) (y : Kept net_value.Value net.Address) → KeepsPlace U K w es x y → KeepsPlace U L v es x y
keeps_by_places U K L w v go [] x y h = tt
keeps_by_places U K L w v go (e ∷ []) keeps_nothing y h = tt
keeps_by_places U K L w v go (e ∷ []) (keeps_limit a i j) y h = tt
keeps_by_places U K L w v go (e ∷ []) (keeps_value x) y h = h
keeps_by_places U K L w v go (e ∷ []) (keeps_address a) y h = ((λ t is. go t a (kept_address y) (h.0 t is)), h.1)
keeps_by_places U K L w v go (e ∷ d ∷ es) x y h = tt

pub place_kept_later : (U : Upgrade) (K : Pledge) (w0 w1 : World) → Later U K w0 w1 → (es : List Expr) (x : Kept Value Address)
    (y : Kept net_value.Value net.Address) → KeepsPlace U K w0 es x y → KeepsPlace U K w1 es x y
place_kept_later U K w0 w1 l es x y h =
    keeps_by_places U K K w0 w1
    (λ t a b z. record {
      position = z.position;
      stands = z.stands;
      sound = z.sound;
      same = address_later U K w0 w1 a b l z.same;
      target = z.target;
      plain = plain_later U w0 w1 a l.extends (same_made U K w0 a b z.same) z.plain;
    }) es x y h

pub place_kept_promised : (U : Upgrade) (K L : Pledge) (w : World) → Weaker w K L → (es : List Expr) (x : Kept Value Address)
    (y : Kept net_value.Value net.Address) → KeepsPlace U K w es x y → KeepsPlace U L w es x y
place_kept_promised U K L w less es x y h =
    keeps_by_places U K L w w
    (λ t a b z. record {
      position = z.position;
      stands = z.stands;
      sound = z.sound;
      same = address_promised U K L w w a b less z.same;
      target = z.target;
      plain = z.plain;
    }) es x y h

-- ---- heads

-- what the head of a block keeps in a frame, by its form
pub record CanKeep (U : Upgrade) (K : Pledge) (p : ℕ) (f : SourceFrame) (w : World) (form : Form) (es : List Expr) (x : Kept Value Address)
    (y : Kept net_value.Value net.Address) : Type 0 where
  pub by : KeptBy f.vars form es x y
  pub in_place : (a : Address) → is_own_head U p form es ≡ true → x ≡ keeps_address a → IsInPlace a
  pub own : (a : Address) → is_own_head U p form es ≡ true → x ≡ keeps_address a → IsOwnAddress K a
  pub place : is_with form ≡ true → KeepsPlace U K w es x y

pub can_keep_later : (U : Upgrade) (K : Pledge) (p : ℕ) (f : SourceFrame) (w0 w1 : World) → Later U K w0 w1 → (form : Form) (es : List Expr)
    (x : Kept Value Address) (y : Kept net_value.Value net.Address) → CanKeep U K p f w0 form es x y → CanKeep U K p f w1 form es x y
can_keep_later U K p f w0 w1 l form es x y h = record {
  by = h.by;
  in_place = h.in_place;
  own = h.own;
  place = λ is. place_kept_later U K w0 w1 l es x y (h.place is);
}

-- a head that is no With keeps no address
pub value_kept : (U : Upgrade) (K : Pledge) (p : ℕ) (f : SourceFrame) (w : World) (form : Form) (es : List Expr) (x : Kept Value Address)
    (y : Kept net_value.Value net.Address) → is_with form ≡ false → ((a : Address) → x ≡ keeps_address a → ⊥) → KeptBy f.vars form es x y
    → CanKeep U K p f w form es x y
value_kept U K p f w form es x y other none by = record {
  by = by;
  in_place = λ a own is. absurd (none a is);
  own = λ a own is. absurd (none a is);
  place = λ is. absurd (true≢false (sym is ∙ other));
}
