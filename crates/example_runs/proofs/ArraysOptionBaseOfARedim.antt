-- The program arrays-option-base-of-a-redim, what it puts out and how it ends.
use Rattle.std.proofs.Common.{◌≡◌, refl, List, ℤ, pos, negsuc, Bool, true, false, [], ◌∷◌, codes, Some, None}
use Rattle.vb_tree.specs.declared.declared.VarId.{VarId}
use Rattle.bound_tree.specs.Tree as bound
use Rattle.net_tree.specs.Tree as net
use Rattle.net_tree.specs.Types as net_types
use Rattle.vb_tree.specs.BoundTree as types
use Rattle.vb_tree.specs.Tree as vb
use Rattle.net_tree.specs.declared.expression.CastWord.TheVariants as cast
use Rattle.net_tree.specs.declared.declaration.NetClose.TheVariants as close
use Rattle.vb_tree.specs.declared.declared.ProcKind.TheVariants as kind
use Rattle.vb_tree.specs.declared.bound.LibCall.TheVariants as lib
use Rattle.vb_tree.specs.declared.token.Literal6.TheVariants as literal
use Rattle.bound_tree.specs.declared.body.Mention.TheVariants as mention
use Rattle.bound_tree.specs.declared.declared.Named.TheVariants as named
use Rattle.net_tree.specs.declared.expression.NetBin.TheVariants as net_bin
use Rattle.net_tree.specs.declared.declaration.NetPassing.TheVariants as net_passing
use Rattle.net_tree.specs.declared.expression.NetUn.TheVariants as net_un
use Rattle.net_tree.specs.declared.declaration.NetVisibility.TheVariants as net_visible
use Rattle.bound_tree.specs.declared.expression.Origin.TheVariants as origin
use Rattle.vb_tree.specs.declared.declared.Owner.TheVariants as owner
use Rattle.vb_tree.specs.declared.project.ProjectKind.TheVariants as project_kind
use Rattle.bound_tree.specs.declared.declared.Scope.TheVariants as scope
use Rattle.vb_tree.specs.declared.token.Suffix.TheVariants as suffix
use Rattle.vb_tree.specs.declared.value.Value6.TheVariants as value
use Rattle.vb_tree.specs.declared.form_parts.VarWord.TheVariants as var
use Rattle.vb_tree.specs.declared.form_parts.Visibility.TheVariants as visible
use Rattle.std.specs.Fmt.{digits}
use Rattle.example_runs.proofs.Said.{line, raised, ran, runnable_of}
use Rattle.vb6_run.specs.Runnables.{Runnable}

abbrev pub project : vb.Project
project = (record {
  file = (record {
    kind = project_kind.Exe;
    startup = (Some (3, (codes "Sub Main")));
    entries = ((record
        { line = 2; class = false; name = (codes "Main1"); file = (codes "Main1.bas") }) ∷ []);
    dropped = ([]);
  });
  modules = ((record {
    file = 1;
    name = (codes "Main1");
    class = false;
    members = (
        (vb.alone (record {
          place = (record { file = 1; line = 1 });
          text = (codes "Option Base 1");
          form = (vb.option_base (pos
              1));
        })) ∷
        (vb.proc (record {
          place = (record { file = 1; line = 3 });
          text = (codes "Sub Main()");
          form = (vb.sub_head (record {
            visibility = None;
            name = (codes "Main");
            suffix = suffix.Absent;
            params = ([]);
          }));
        }) (vb.next_node
        (vb.line (record {
          place = (record { file = 1; line = 4 });
          text = (codes "Dim a() As Long, b(3) As Long");
          form = (vb.variables
              var.Dim ((record {
                name = (codes "a");
                suffix = suffix.Absent;
                bounds = (Some ([]));
                auto = false;
                ty = (Some (vb.named
                    (codes "Long")));
              }) ∷ (record {
                name = (codes "b");
                suffix = suffix.Absent;
                bounds = (Some ((record {
                  lower = None;
                  upper
                      = (vb.lit (literal.Int (pos 3) false));
                }) ∷ []));
                auto = false;
                ty = (Some (vb.named (codes "Long")));
              }) ∷ []));
        })) (vb.next_node
        (vb.line (record {
          place = (record { file = 1; line = 5 });
          text = (codes "ReDim a(4)");
          form = (vb.redim false ((record {
            array = (vb.word (codes "a") suffix.Absent);
            bounds = ((record {
              lower = None;
              upper = (vb.lit (literal.Int (pos 4)
                  false));
            }) ∷ []);
            ty = None;
          }) ∷ []));
        })) (vb.next_node
        (vb.line (record {
          place = (record { file = 1; line = 6 });
          text = (codes "a(1) = 5");
          form = (vb.assign (vb.index (vb.word
              (codes "a") suffix.Absent) (vb.next_arg None false (vb.given (vb.lit (literal.Int (pos 1) false))) vb.no_args)) (vb.lit
              (literal.Int (pos 5) false)));
        })) (vb.next_node
        (vb.line (record {
          place = (record { file = 1; line = 7 });
          text = (codes "Debug.Print LBound(a); UBound(a); LBound(b); a(1)");
          form = (vb.debug_print ((vb.index (vb.word (codes "LBound") suffix.Absent) (vb.next_arg None false (vb.given (vb.word
              (codes "a") suffix.Absent)) vb.no_args)) ∷ (vb.index (vb.word (codes "UBound") suffix.Absent) (vb.next_arg None false
              (vb.given (vb.word (codes "a") suffix.Absent)) vb.no_args)) ∷ (vb.index (vb.word (codes "LBound") suffix.Absent) (vb.next_arg
              None false (vb.given (vb.word (codes "b") suffix.Absent)) vb.no_args)) ∷ (vb.index (vb.word (codes "a") suffix.Absent)
              (vb.next_arg None false (vb.given (vb.lit (literal.Int (pos 1) false))) vb.no_args)) ∷ []) false);
        })) (vb.next_node
        (vb.line (record {
          place = (record { file = 1; line = 8 });
          text = (codes "a(0) = 5");
          form = (vb.assign (vb.index (vb.word
              (codes "a") suffix.Absent) (vb.next_arg None false (vb.given (vb.lit (literal.Int (pos 0) false))) vb.no_args)) (vb.lit
              (literal.Int (pos 5) false)));
        })) vb.no_nodes))))) (record {
          place = (record { file = 1; line = 9 });
          text = (codes "End Sub");
          form = vb.end_sub;
        })) ∷ []);
    comments = ([]);
  }) ∷ []);
})

abbrev pub declarations : bound.Declarations
declarations = (record {
  project = project;
  names = (
      (record { name = (codes "Main"); scope = (scope.Public 1); named = (named.Proc (record { 0 = 0 })) }) ∷
      (record { name = (codes "a"); scope = (scope.Local (record { 0 = 0 })); named = (named.Var (record { 0 = 0 })) }) ∷
      (record { name = (codes "b"); scope = (scope.Local (record { 0 = 0 })); named = (named.Var (record { 0 = 1 })) }) ∷ []);
  vars = (
      (record {
        name = (codes "a");
        place = (record { file = 1; line = 4 });
        statement = 2;
        owner = (owner.Local (record {
          0
              = 0;
        }));
        ty = (types.array types.long 0);
        named = (types.array types.long 0);
        qualified = false;
        lettered = None;
        bounds
            = ([]);
        auto = false;
        preset = None;
      }) ∷
      (record {
        name = (codes "b");
        place = (record { file = 1; line = 4 });
        statement = 2;
        owner = (owner.Local (record {
          0
              = 0;
        }));
        ty = (types.array types.long 1);
        named = (types.array types.long 1);
        qualified = false;
        lettered = None;
        bounds
            = (((pos 1), (pos 3)) ∷ []);
        auto = false;
        preset = None;
      }) ∷ []);
  consts = ([]);
  procs = (
      (record {
        name = (codes "Main");
        place = (record { file = 1; line = 3 });
        module_number = 1;
        kind = kind.Sub;
        visibility
            = visible.Public;
        params = ([]);
        result = types.nothing;
        answer = None;
        first = (record { 0 = 0 });
      }) ∷ []);
  types = ([]);
  enums = ([]);
  defaults = ([]);
})

abbrev pub body_0 : List bound.Line
body_0 = (
    (record {
      source = (record {
        place = (record { file = 1; line = 5 });
        text = (codes "ReDim a(4)");
        form = (vb.redim false
            ((record {
              array = (vb.word (codes "a") suffix.Absent);
              bounds = ((record {
                lower = None;
                upper = (vb.lit (literal.Int
                    (pos 4) false));
              }) ∷ []);
              ty = None;
            }) ∷ []));
      });
      bindings = (record {
        exprs = ((bound.typed (types.array types.long 0)
            (bound.variable (record { 0 = 0 }) false)) ∷ (bound.typed types.long (bound.convert types.long (bound.typed types.integer
            (bound.constant (value.Int (pos 4)) origin.Literal)))) ∷ []);
        rules = (record { bits = 0 });
        mentions = ((mention.Var
            (record { 0 = 0 })) ∷ []);
      });
    }) ∷
    (record {
      source = (record {
        place = (record { file = 1; line = 6 });
        text = (codes "a(1) = 5");
        form = (vb.assign (vb.index
            (vb.word (codes "a") suffix.Absent) (vb.next_arg None false (vb.given (vb.lit (literal.Int (pos 1) false))) vb.no_args))
            (vb.lit (literal.Int (pos 5) false)));
      });
      bindings = (record {
        exprs = ((bound.typed types.long (bound.element (bound.typed
            (types.array types.long 0) (bound.variable (record { 0 = 0 }) false)) (bound.next_expr (bound.typed types.long (bound.convert
            types.long (bound.typed types.integer (bound.constant (value.Int (pos 1)) origin.Literal)))) bound.no_exprs))) ∷ (bound.typed
            types.long (bound.convert types.long (bound.typed types.integer (bound.constant (value.Int (pos 5)) origin.Literal))))
            ∷ []);
        rules = (record { bits = 0 });
        mentions = ((mention.Var (record { 0 = 0 })) ∷ []);
      });
    }) ∷
    (record {
      source = (record {
        place = (record { file = 1; line = 7 });
        text = (codes "Debug.Print LBound(a); UBound(a); LBound(b); a(1)");
        form = (vb.debug_print ((vb.index (vb.word (codes "LBound") suffix.Absent) (vb.next_arg None false (vb.given (vb.word
            (codes "a") suffix.Absent)) vb.no_args)) ∷ (vb.index (vb.word (codes "UBound") suffix.Absent) (vb.next_arg None false
            (vb.given (vb.word (codes "a") suffix.Absent)) vb.no_args)) ∷ (vb.index (vb.word (codes "LBound") suffix.Absent) (vb.next_arg
            None false (vb.given (vb.word (codes "b") suffix.Absent)) vb.no_args)) ∷ (vb.index (vb.word (codes "a") suffix.Absent)
            (vb.next_arg None false (vb.given (vb.lit (literal.Int (pos 1) false))) vb.no_args)) ∷ []) false);
      });
      bindings = (record {
        exprs = ((bound.typed types.long (bound.library lib.LBound (bound.next_expr (bound.typed (types.array types.long 0)
            (bound.variable (record { 0 = 0 }) false)) bound.no_exprs))) ∷ (bound.typed types.long (bound.library lib.UBound (bound.next_expr
            (bound.typed (types.array types.long 0) (bound.variable (record { 0 = 0 }) false)) bound.no_exprs))) ∷ (bound.typed types.long
            (bound.library lib.LBound (bound.next_expr (bound.typed (types.array types.long 1) (bound.variable (record { 0 = 1 })
            false)) bound.no_exprs))) ∷ (bound.typed types.long (bound.element (bound.typed (types.array types.long 0) (bound.variable
            (record { 0 = 0 }) false)) (bound.next_expr (bound.typed types.long (bound.convert types.long (bound.typed types.integer
            (bound.constant (value.Int (pos 1)) origin.Literal)))) bound.no_exprs))) ∷ []);
        rules = (record { bits = 0 });
        mentions
            = ((mention.Var (record { 0 = 0 })) ∷ (mention.Var (record { 0 = 0 })) ∷ (mention.Var (record { 0 = 1 })) ∷ (mention.Var
            (record { 0 = 0 })) ∷ []);
      });
    }) ∷
    (record {
      source = (record {
        place = (record { file = 1; line = 8 });
        text = (codes "a(0) = 5");
        form = (vb.assign (vb.index
            (vb.word (codes "a") suffix.Absent) (vb.next_arg None false (vb.given (vb.lit (literal.Int (pos 0) false))) vb.no_args))
            (vb.lit (literal.Int (pos 5) false)));
      });
      bindings = (record {
        exprs = ((bound.typed types.long (bound.element (bound.typed
            (types.array types.long 0) (bound.variable (record { 0 = 0 }) false)) (bound.next_expr (bound.typed types.long (bound.convert
            types.long (bound.typed types.integer (bound.constant (value.Int (pos 0)) origin.Literal)))) bound.no_exprs))) ∷ (bound.typed
            types.long (bound.convert types.long (bound.typed types.integer (bound.constant (value.Int (pos 5)) origin.Literal))))
            ∷ []);
        rules = (record { bits = 0 });
        mentions = ((mention.Var (record { 0 = 0 })) ∷ []);
      });
    }) ∷ [])

abbrev pub bodies : List (List bound.Line)
bodies = body_0 ∷ []

abbrev pub program : bound.Program
program = record { declarations = declarations; bodies = bodies }

abbrev pub quiet : List (List Bool)
quiet = (([]) ∷ [])

abbrev pub lows : List (VarId × ℤ × ℤ)
lows = (((record { 0 = 0 }), (pos 1), (pos 0)) ∷ ((record { 0 = 1 }), (pos 1), (pos 0)) ∷ [])

abbrev pub clean : List Bool
clean = (true ∷ [])

abbrev pub written : net.Project
written = (record {
  library = false;
  main = (Some (codes "Main1"));
  note = None;
  modules = ((record {
    name = (codes "Main1");
    class = false;
    members = (
        (net.proc (record {
          head = (net.sub net_visible.Public (codes "Main") ([]));
          prologue = (
              (net.local (record {
                name = (codes "a");
                ty = (net_types.array_of net_types.integer 1);
                value = (Some (net.new_array net_types.integer
                    (net.next_exp (net.lit (net.integer (negsuc 0) false)) net.no_exps)));
              })) ∷
              (net.local (record {
                name = (codes "b");
                ty = (net_types.array_of net_types.integer 1);
                value = (Some (net.new_array net_types.integer
                    (net.next_exp (net.lit (net.integer (pos 2) false)) net.no_exps)));
              })) ∷ []);
          lines = (
              (net.redim false ((record {
                array = (net.path ((codes "a") ∷ []));
                bounds = (net.next_exp (net.call_of (net.path ((codes
                    "UpgradeSupport") ∷ (codes "Top") ∷ [])) (net.next_exp (net.lit (net.integer (pos 4) false)) (net.next_exp (net.lit (net.integer
                    (pos 1) false)) net.no_exps))) net.no_exps);
              }) ∷ [])) ∷
              (net.assign (net.call_of (net.path ((codes "a") ∷ [])) (net.next_exp (net.call_of (net.path ((codes "UpgradeSupport")
              ∷ (codes "At") ∷ [])) (net.next_exp (net.lit (net.integer (pos 1) false)) (net.next_exp (net.lit (net.integer (pos 1)
              false)) net.no_exps))) net.no_exps)) (net.lit (net.integer (pos 5) false))) ∷
              (net.call (net.path ((codes "UpgradeSupport") ∷ (codes "PrintLine") ∷ [])) (net.next_exp (net.binary net_bin.Concat (net.binary
              net_bin.Concat (net.binary net_bin.Concat (net.call_of (net.path ((codes "UpgradeSupport") ∷ (codes "PrintNum") ∷ []))
              (net.next_exp (net.cast cast.CDec (net.call_of (net.path ((codes "UpgradeSupport") ∷ (codes "Lo") ∷ [])) (net.next_exp
              (net.path ((codes "a") ∷ [])) (net.next_exp (net.lit (net.integer (pos 1) false)) net.no_exps)))) net.no_exps)) (net.call_of
              (net.path ((codes "UpgradeSupport") ∷ (codes "PrintNum") ∷ [])) (net.next_exp (net.cast cast.CDec (net.call_of (net.path
              ((codes "UpgradeSupport") ∷ (codes "Hi") ∷ [])) (net.next_exp (net.path ((codes "a") ∷ [])) (net.next_exp (net.lit (net.integer
              (pos 0) false)) (net.next_exp (net.lit (net.integer (pos 1) false)) net.no_exps))))) net.no_exps))) (net.call_of (net.path
              ((codes "UpgradeSupport") ∷ (codes "PrintNum") ∷ [])) (net.next_exp (net.cast cast.CDec (net.call_of (net.path ((codes
              "UpgradeSupport") ∷ (codes "Lo") ∷ [])) (net.next_exp (net.path ((codes "b") ∷ [])) (net.next_exp (net.lit (net.integer
              (pos 1) false)) net.no_exps)))) net.no_exps))) (net.call_of (net.path ((codes "UpgradeSupport") ∷ (codes "PrintNum") ∷
              [])) (net.next_exp (net.cast cast.CDec (net.call_of (net.path ((codes "a") ∷ [])) (net.next_exp (net.call_of (net.path
              ((codes "UpgradeSupport") ∷ (codes "At") ∷ [])) (net.next_exp (net.lit (net.integer (pos 1) false)) (net.next_exp (net.lit
              (net.integer (pos 1) false)) net.no_exps))) net.no_exps))) net.no_exps))) net.no_exps)) ∷
              (net.assign (net.call_of (net.path ((codes "a") ∷ [])) (net.next_exp (net.call_of (net.path ((codes "UpgradeSupport")
              ∷ (codes "At") ∷ [])) (net.next_exp (net.lit (net.integer (pos 0) false)) (net.next_exp (net.lit (net.integer (pos 1)
              false)) net.no_exps))) net.no_exps)) (net.lit (net.integer (pos 5) false))) ∷ []);
          close = close.EndSub;
        })) ∷ []);
  }) ∷
      []);
  support = (record {
    name = (codes "UpgradeSupport");
    class = false;
    members = (
        (net.proc (record {
          head = (net.sub net_visible.Public (codes "PrintLine") ((record {
            passing = net_passing.Value;
            name
                = (codes "s");
            ty = net_types.str;
          }) ∷ []));
          prologue = ([]);
          lines = (
              (net.call (net.path ((codes "System") ∷ (codes "Console") ∷ (codes "WriteLine") ∷ [])) (net.next_exp (net.path ((codes
              "s") ∷ [])) net.no_exps)) ∷ []);
          close = close.EndSub;
        })) ∷
        (net.proc (record {
          head = (net.function net_visible.Public (codes "CurText") ((record {
            passing = net_passing.Value;
            name = (codes "d");
            ty = net_types.decimal;
          }) ∷ []) net_types.str);
          prologue = ([]);
          lines = (
              (net.assign (net.path ((codes "CurText") ∷ [])) (net.call_of (net.path ((codes "d") ∷ (codes "ToString") ∷ [])) (net.next_exp
              (net.lit (net.str (codes "0.####"))) (net.next_exp (net.path ((codes "System") ∷ (codes "Globalization") ∷ (codes "CultureInfo")
              ∷ (codes "InvariantCulture") ∷ [])) net.no_exps)))) ∷ []);
          close = close.EndFunction;
        })) ∷
        (net.proc (record {
          head = (net.function net_visible.Public (codes "PrintNum") ((record {
            passing = net_passing.Value;
            name = (codes "d");
            ty = net_types.decimal;
          }) ∷ []) net_types.str);
          prologue = ([]);
          lines = (
              (net.if_head (net.binary net_bin.Less (net.path ((codes "d") ∷ [])) (net.lit (net.decimal (pos 0))))) ∷
              (net.assign (net.path ((codes "PrintNum") ∷ [])) (net.binary net_bin.Concat (net.call_of (net.path ((codes "CurText")
              ∷ [])) (net.next_exp (net.path ((codes "d") ∷ [])) net.no_exps)) (net.lit (net.str (codes " "))))) ∷
              net.else_line ∷
              (net.assign (net.path ((codes "PrintNum") ∷ [])) (net.binary net_bin.Concat (net.binary net_bin.Concat (net.lit (net.str
              (codes " "))) (net.call_of (net.path ((codes "CurText") ∷ [])) (net.next_exp (net.path ((codes "d") ∷ [])) net.no_exps)))
              (net.lit (net.str (codes " "))))) ∷
              net.end_if ∷ []);
          close = close.EndFunction;
        })) ∷
        (net.proc (record {
          head = (net.function net_visible.Public (codes "At") ((record {
            passing = net_passing.Value;
            name
                = (codes "i");
            ty = net_types.integer;
          }) ∷ (record {
            passing = net_passing.Value;
            name = (codes "b");
            ty = net_types.integer;
          }) ∷ []) net_types.integer);
          prologue = (
              (net.local (record {
                name = (codes "d");
                ty = net_types.long;
                value = (Some (net.binary net_bin.Sub (net.cast cast.CLng
                    (net.path ((codes "i") ∷ []))) (net.cast cast.CLng (net.path ((codes "b") ∷ [])))));
              })) ∷ []);
          lines = (
              (net.if_head (net.binary net_bin.Or (net.binary net_bin.Less (net.path ((codes "d") ∷ [])) (net.lit (net.long (pos 0))))
              (net.binary net_bin.Greater (net.path ((codes "d") ∷ [])) (net.lit (net.long (pos 2147483647)))))) ∷
              (net.assign (net.path ((codes "At") ∷ [])) (net.unary net_un.Neg (net.lit (net.integer (pos 1) false)))) ∷
              net.else_line ∷
              (net.assign (net.path ((codes "At") ∷ [])) (net.cast cast.CInt (net.path ((codes "d") ∷ [])))) ∷
              net.end_if ∷ []);
          close = close.EndFunction;
        })) ∷
        (net.proc (record {
          head = (net.function net_visible.Public (codes "Top") ((record {
            passing = net_passing.Value;
            name
                = (codes "h");
            ty = net_types.integer;
          }) ∷ (record {
            passing = net_passing.Value;
            name = (codes "b");
            ty = net_types.integer;
          }) ∷ []) net_types.integer);
          prologue = ([]);
          lines = (
              (net.if_head (net.binary net_bin.Less (net.path ((codes "h") ∷ [])) (net.path ((codes "b") ∷ [])))) ∷
              (net.call (net.path ((codes "Raise") ∷ [])) (net.next_exp (net.lit (net.integer (pos 9) false)) net.no_exps)) ∷
              net.end_if ∷
              (net.assign (net.path ((codes "Top") ∷ [])) (net.binary net_bin.Sub (net.path ((codes "h") ∷ [])) (net.path ((codes "b")
              ∷ [])))) ∷ []);
          close = close.EndFunction;
        })) ∷
        (net.proc (record {
          head = (net.function net_visible.Public (codes "Hi") ((record {
            passing = net_passing.Value;
            name
                = (codes "a");
            ty = net_types.system_array;
          }) ∷ (record {
            passing = net_passing.Value;
            name = (codes "d");
            ty = net_types.integer;
          }) ∷ (record { passing = net_passing.Value; name = (codes "b"); ty = net_types.integer }) ∷ []) net_types.integer);
          prologue
              = ([]);
          lines = (
              (net.if_head (net.binary net_bin.Equal (net.path ((codes "a") ∷ (codes "Length") ∷ [])) (net.lit (net.integer (pos 0)
              false)))) ∷
              (net.call (net.path ((codes "Raise") ∷ [])) (net.next_exp (net.lit (net.integer (pos 9) false)) net.no_exps)) ∷
              net.end_if ∷
              (net.assign (net.path ((codes "Hi") ∷ [])) (net.binary net_bin.Add (net.call_of (net.path ((codes "a") ∷ (codes "GetUpperBound")
              ∷ [])) (net.next_exp (net.path ((codes "d") ∷ [])) net.no_exps)) (net.path ((codes "b") ∷ [])))) ∷ []);
          close = close.EndFunction;
        })) ∷
        (net.proc (record {
          head = (net.function net_visible.Public (codes "Lo") ((record {
            passing = net_passing.Value;
            name
                = (codes "a");
            ty = net_types.system_array;
          }) ∷ (record {
            passing = net_passing.Value;
            name = (codes "b");
            ty = net_types.integer;
          }) ∷ []) net_types.integer);
          prologue = ([]);
          lines = (
              (net.if_head (net.binary net_bin.Equal (net.path ((codes "a") ∷ (codes "Length") ∷ [])) (net.lit (net.integer (pos 0)
              false)))) ∷
              (net.call (net.path ((codes "Raise") ∷ [])) (net.next_exp (net.lit (net.integer (pos 9) false)) net.no_exps)) ∷
              net.end_if ∷
              (net.assign (net.path ((codes "Lo") ∷ [])) (net.path ((codes "b") ∷ []))) ∷ []);
          close = close.EndFunction;
        })) ∷
        (net.proc (record {
          head = (net.sub net_visible.Public (codes "Raise") ((record {
            passing = net_passing.Value;
            name =
                (codes "n");
            ty = net_types.integer;
          }) ∷ []));
          prologue = ([]);
          lines = (
              (net.call (net.dot (net.call_of (net.path ((codes "Microsoft") ∷ (codes "VisualBasic") ∷ (codes "Information") ∷ (codes
              "Err") ∷ [])) net.no_exps) (codes "Raise")) (net.next_exp (net.path ((codes "n") ∷ [])) net.no_exps)) ∷ []);
          close = close.EndSub;
        })) ∷ []);
  });
})

abbrev pub runnable : Runnable
runnable = runnable_of program quiet lows

said : ran runnable 0 2000 ≡
    (line (codes " 1  4  1  5 "), raised 9)
unfolding digits
said = refl
