-- Depths of expressions, within a room.
use Rattle.std.proofs.Common.{◌≡◌, ℕ, suc, max, ◌&&◌, true, false, not, nat_eq, nat_le, refl, ap, sym, ◌∙◌, arith, Global, le-leb, leb-true}
use Rattle.std.proofs.lemmas.Bool.{lt-leb, leb-false}
use Rattle.std.specs.Prelude.{Vec, Box}
use Rattle.net_tree.specs.declared.expression.NetExpr.{NetExpr}
use Rattle.net_tree.specs.declared.expression.NetExpr.TheVariants as code
use Rattle.net_tree.specs.declared.expression.NetType.{NetType}
use Rattle.net_tree.specs.Depth.{depth_exp, depth_exps}
use Rattle.net_tree.specs.Tree.{Exp, binary, call_of, cast, ctype, dot, lit, me, new_array, new_object, nothing, paren, path, type_of, unary, with_dot}
use Rattle.net_tree.specs.View.{exp_of, exps_of}
use Rattle.net_tree.proofs.Views.{exps_hidden}
use Rattle.up_base.proofs.Tests.{by_test}

no_level : (d : ℕ) → nat_le (suc d) 0 ≡ false
no_level d = lt-leb (suc d) 0 (omega arith)

-- an expression has a depth
pub none_within : (e : Exp) → nat_le (depth_exp e) 0 ≡ false
none_within (lit l) = refl
none_within nothing = refl
none_within me = refl
none_within (path names) = refl
none_within (with_dot name) = refl
none_within (dot e name) = no_level (depth_exp e)
none_within (call_of e args) = no_level (max (depth_exp e) (depth_exps args))
none_within (cast w e) = no_level (depth_exp e)
none_within (ctype e t) = no_level (depth_exp e)
none_within (unary o e) = no_level (depth_exp e)
none_within (binary o a b) = no_level (max (depth_exp a) (depth_exp b))
none_within (paren e) = no_level (depth_exp e)
none_within (new_object t args) = no_level (depth_exps args)
none_within (new_array t bounds) = no_level (depth_exps bounds)
none_within (type_of e t) = no_level (depth_exp e)

pub without_room : (e : Exp) (room : ℕ) → room ≡ 0 → not (nat_eq room 0) ≡ nat_le (depth_exp e) room
without_room e room h = ap (λ r. not (nat_eq r 0)) h ∙ sym (none_within e) ∙ ap (nat_le (depth_exp e)) (sym h)

-- both are within the room just where the deeper one is
pub both_within : (a b room : ℕ) → nat_le (max a b) room ≡ (nat_le a room && nat_le b room)
both_within a b room =
    by_test (nat_le a room) (λ t. nat_le (max a b) room ≡ (t && nat_le b room))
    (λ p. let h = leb-true a room p in
    by_test (nat_le b room) (λ t. nat_le (max a b) room ≡ t) (λ q. let k = leb-true b room q in le-leb (max a b) room (omega arith))
    (λ q. let k = leb-false b room q in lt-leb (max a b) room (omega arith)))
    (λ p. let h = leb-false a room p in lt-leb (max a b) room (omega arith))

-- one level more, in a room with one level more
one_level : (d room : ℕ) → nat_le d room ≡ nat_le (suc d) (suc room)
one_level d room =
    by_test (nat_le d room) (λ t. t ≡ nat_le (suc d) (suc room)) (λ p. let h = leb-true d room p in sym (le-leb (suc d) (suc room) (omega arith)))
    (λ p. let h = leb-false d room p in sym (lt-leb (suc d) (suc room) (omega arith)))

pub call_within :
    (callee : Box NetExpr Global) (args : Vec NetExpr Global) (room : ℕ) → nat_le (depth_exp (exp_of callee.value)) room ≡ true
    → nat_le (depth_exps (exps_of args.items)) room ≡ nat_le (depth_exp (exp_of (code.Call callee args))) (suc room)
call_within callee args room h =
    ap (λ b. b && nat_le (depth_exps (exps_of args.items)) room) (sym h)
    ∙ sym (both_within (depth_exp (exp_of callee.value)) (depth_exps (exps_of args.items)) room)
    ∙ one_level (max (depth_exp (exp_of callee.value)) (depth_exps (exps_of args.items))) room
    ∙ ap (λ es. nat_le (suc (max (depth_exp (exp_of callee.value)) (depth_exps es))) (suc room)) (sym (exps_hidden args))

pub object_within :
    (t : NetType) (args : Vec NetExpr Global) (room : ℕ) → nat_le (depth_exps (exps_of args.items)) room ≡ nat_le (depth_exp (exp_of (code.NewObject t args))) (suc room)
object_within t args room = one_level (depth_exps (exps_of args.items)) room ∙ ap (λ es. nat_le (suc (depth_exps es)) (suc room)) (sym (exps_hidden args))

pub array_within :
    (t : NetType) (bounds : Vec NetExpr Global) (room : ℕ) → nat_le (depth_exps (exps_of bounds.items)) room ≡ nat_le (depth_exp (exp_of (code.NewArray t bounds))) (suc room)
array_within t bounds room = one_level (depth_exps (exps_of bounds.items)) room ∙ ap (λ es. nat_le (suc (depth_exps es)) (suc room)) (sym (exps_hidden bounds))
