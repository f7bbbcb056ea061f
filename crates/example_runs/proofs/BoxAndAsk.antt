-- The program box-and-ask, what it puts out and how it ends.
use Rattle.std.proofs.Common.{◌≡◌, refl, ◌++◌, List, ℤ, pos, Bool, true, false, [], ◌∷◌, codes, Some, None}
use Rattle.vb_tree.specs.declared.declared.VarId.{VarId}
use Rattle.bound_tree.specs.Tree as bound
use Rattle.net_tree.specs.Tree as net
use Rattle.net_tree.specs.Types as net_types
use Rattle.vb_tree.specs.BoundTree as types
use Rattle.vb_tree.specs.Tree as vb
use Rattle.vb_tree.specs.declared.expression.BinOp.TheVariants as bin
use Rattle.net_tree.specs.declared.expression.CastWord.TheVariants as cast
use Rattle.net_tree.specs.declared.declaration.NetClose.TheVariants as close
use Rattle.vb_tree.specs.declared.declared.ProcKind.TheVariants as kind
use Rattle.vb_tree.specs.declared.bound.LibCall.TheVariants as lib
use Rattle.vb_tree.specs.declared.token.Literal6.TheVariants as literal
use Rattle.bound_tree.specs.declared.body.Mention.TheVariants as mention
use Rattle.bound_tree.specs.declared.declared.Named.TheVariants as named
use Rattle.net_tree.specs.declared.expression.NetBin.TheVariants as net_bin
use Rattle.net_tree.specs.declared.declaration.NetPassing.TheVariants as net_passing
use Rattle.net_tree.specs.declared.declaration.NetVisibility.TheVariants as net_visible
use Rattle.bound_tree.specs.declared.expression.Origin.TheVariants as origin
use Rattle.vb_tree.specs.declared.declared.Owner.TheVariants as owner
use Rattle.vb_tree.specs.declared.project.ProjectKind.TheVariants as project_kind
use Rattle.bound_tree.specs.declared.declared.Scope.TheVariants as scope
use Rattle.vb_tree.specs.declared.token.Suffix.TheVariants as suffix
use Rattle.vb_tree.specs.declared.value.Value6.TheVariants as value
use Rattle.vb_tree.specs.declared.form_parts.VarWord.TheVariants as var
use Rattle.vb_tree.specs.declared.form_parts.Visibility.TheVariants as visible
use Rattle.std.specs.Fmt.{digits}
use Rattle.example_runs.proofs.Said.{ended, line, note, ran, ran_written, runnable_of}
use Rattle.vb6_run.specs.Runnables.{Runnable}

abbrev pub project : vb.Project
project = (record {
  file = (record {
    kind = project_kind.Exe;
    startup = (Some (3, (codes "Sub Main")));
    entries = ((record
        { line = 2; class = false; name = (codes "Main1"); file = (codes "Main1.bas") }) ∷ []);
    dropped = ([]);
  });
  modules = ((record {
    file = 1;
    name = (codes "Main1");
    class = false;
    members = (
        (vb.proc (record {
          place = (record { file = 1; line = 1 });
          text = (codes "Sub Main()");
          form = (vb.sub_head (record {
            visibility = None;
            name = (codes "Main");
            suffix = suffix.Absent;
            params = ([]);
          }));
        }) (vb.next_node
        (vb.line (record {
          place = (record { file = 1; line = 2 });
          text = (codes "Dim s As String");
          form = (vb.variables var.Dim
              ((record {
                name = (codes "s");
                suffix = suffix.Absent;
                bounds = None;
                auto = false;
                ty = (Some (vb.named (codes "String")));
              }) ∷ []));
        })) (vb.next_node
        (vb.line (record {
          place = (record { file = 1; line = 3 });
          text = (77 ∷ 115 ∷ 103 ∷ 66 ∷ 111 ∷ 120 ∷ 32 ∷ 34 ∷ 104
              ∷ 101 ∷ 108 ∷ 108 ∷ 111 ∷ 34 ∷ []);
          form = (vb.invoke (vb.word (codes "MsgBox") suffix.Absent) (vb.next_arg None false
              (vb.given (vb.lit (literal.Str (codes "hello")))) vb.no_args));
        })) (vb.next_node
        (vb.line (record {
          place = (record { file = 1; line = 4 });
          text = (115 ∷ 32 ∷ 61 ∷ 32 ∷ 73 ∷ 110 ∷ 112 ∷ 117 ∷ 116
              ∷ 66 ∷ 111 ∷ 120 ∷ 40 ∷ 34 ∷ 110 ∷ 97 ∷ 109 ∷ 101 ∷ 63 ∷ 34 ∷ 41 ∷ []);
          form = (vb.assign (vb.word (codes "s") suffix.Absent)
              (vb.index (vb.word (codes "InputBox") suffix.Absent) (vb.next_arg None false (vb.given (vb.lit (literal.Str (codes "name?"))))
              vb.no_args)));
        })) (vb.next_node
        (vb.line (record {
          place = (record { file = 1; line = 5 });
          text = (68 ∷ 101 ∷ 98 ∷ 117 ∷ 103 ∷ 46 ∷ 80 ∷ 114 ∷ 105
              ∷ 110 ∷ 116 ∷ 32 ∷ 34 ∷ 91 ∷ 34 ∷ 32 ∷ 38 ∷ 32 ∷ 115 ∷ 32 ∷ 38 ∷ 32 ∷ 34 ∷ 93 ∷ 34 ∷ []);
          form = (vb.debug_print ((vb.binary
              bin.Concat (vb.binary bin.Concat (vb.lit (literal.Str (codes "["))) (vb.word (codes "s") suffix.Absent)) (vb.lit (literal.Str
              (codes "]")))) ∷ []) false);
        })) (vb.next_node
        (vb.line (record {
          place = (record { file = 1; line = 6 });
          text = (codes "MsgBox 5");
          form = (vb.invoke (vb.word (codes
              "MsgBox") suffix.Absent) (vb.next_arg None false (vb.given (vb.lit (literal.Int (pos 5) false))) vb.no_args));
        })) vb.no_nodes)))))
        (record { place = (record { file = 1; line = 7 }); text = (codes "End Sub"); form = vb.end_sub })) ∷ []);
    comments = ([]);
  }) ∷ []);
})

abbrev pub declarations : bound.Declarations
declarations = (record {
  project = project;
  names = (
      (record { name = (codes "Main"); scope = (scope.Public 1); named = (named.Proc (record { 0 = 0 })) }) ∷
      (record { name = (codes "s"); scope = (scope.Local (record { 0 = 0 })); named = (named.Var (record { 0 = 0 })) }) ∷ []);
  vars = (
      (record {
        name = (codes "s");
        place = (record { file = 1; line = 2 });
        statement = 1;
        owner = (owner.Local (record {
          0
              = 0;
        }));
        ty = types.str;
        named = types.str;
        qualified = false;
        lettered = None;
        bounds = ([]);
        auto = false;
        preset =
            None;
      }) ∷ []);
  consts = ([]);
  procs = (
      (record {
        name = (codes "Main");
        place = (record { file = 1; line = 1 });
        module_number = 1;
        kind = kind.Sub;
        visibility
            = visible.Public;
        params = ([]);
        result = types.nothing;
        answer = None;
        first = (record { 0 = 0 });
      }) ∷ []);
  types = ([]);
  enums = ([]);
  defaults = ([]);
})

abbrev pub body_0 : List bound.Line
body_0 = (
    (record {
      source = (record {
        place = (record { file = 1; line = 3 });
        text = (77 ∷ 115 ∷ 103 ∷ 66 ∷ 111 ∷ 120 ∷ 32 ∷ 34
            ∷ 104 ∷ 101 ∷ 108 ∷ 108 ∷ 111 ∷ 34 ∷ []);
        form = (vb.invoke (vb.word (codes "MsgBox") suffix.Absent) (vb.next_arg None
            false (vb.given (vb.lit (literal.Str (codes "hello")))) vb.no_args));
      });
      bindings = (record {
        exprs = ((bound.typed types.nothing
            (bound.library lib.MsgBox (bound.next_expr (bound.typed types.str (bound.constant (value.Str (codes "hello")) origin.Literal))
            bound.no_exprs))) ∷ []);
        rules = (record { bits = 0 });
        mentions = ([]);
      });
    }) ∷
    (record {
      source = (record {
        place = (record { file = 1; line = 4 });
        text = (115 ∷ 32 ∷ 61 ∷ 32 ∷ 73 ∷ 110 ∷ 112 ∷ 117
            ∷ 116 ∷ 66 ∷ 111 ∷ 120 ∷ 40 ∷ 34 ∷ 110 ∷ 97 ∷ 109 ∷ 101 ∷ 63 ∷ 34 ∷ 41 ∷ []);
        form = (vb.assign (vb.word (codes "s") suffix.Absent)
            (vb.index (vb.word (codes "InputBox") suffix.Absent) (vb.next_arg None false (vb.given (vb.lit (literal.Str (codes "name?"))))
            vb.no_args)));
      });
      bindings = (record {
        exprs = ((bound.typed types.str (bound.variable (record { 0 = 0 }) false)) ∷ (bound.typed
            types.str (bound.library lib.InputBox (bound.next_expr (bound.typed types.str (bound.constant (value.Str (codes "name?"))
            origin.Literal)) bound.no_exprs))) ∷ []);
        rules = (record { bits = 0 });
        mentions = ((mention.Var (record { 0 = 0 }))
            ∷ []);
      });
    }) ∷
    (record {
      source = (record {
        place = (record { file = 1; line = 5 });
        text = (68 ∷ 101 ∷ 98 ∷ 117 ∷ 103 ∷ 46 ∷ 80 ∷ 114
            ∷ 105 ∷ 110 ∷ 116 ∷ 32 ∷ 34 ∷ 91 ∷ 34 ∷ 32 ∷ 38 ∷ 32 ∷ 115 ∷ 32 ∷ 38 ∷ 32 ∷ 34 ∷ 93 ∷ 34 ∷ []);
        form = (vb.debug_print
            ((vb.binary bin.Concat (vb.binary bin.Concat (vb.lit (literal.Str (codes "["))) (vb.word (codes "s") suffix.Absent)) (vb.lit
            (literal.Str (codes "]")))) ∷ []) false);
      });
      bindings = (record {
        exprs = ((bound.typed types.str (bound.binary bin.Concat
            (bound.typed types.str (bound.binary bin.Concat (bound.typed types.str (bound.constant (value.Str (codes "[")) origin.Literal))
            (bound.typed types.str (bound.variable (record { 0 = 0 }) false)))) (bound.typed types.str (bound.constant (value.Str
            (codes "]")) origin.Literal)))) ∷ []);
        rules = (record { bits = 0 });
        mentions = ((mention.Var (record { 0 = 0 })) ∷ []);
      });
    }) ∷
    (record {
      source = (record {
        place = (record { file = 1; line = 6 });
        text = (codes "MsgBox 5");
        form = (vb.invoke (vb.word
            (codes "MsgBox") suffix.Absent) (vb.next_arg None false (vb.given (vb.lit (literal.Int (pos 5) false))) vb.no_args));
      });
      bindings = (record {
        exprs = ((bound.typed types.nothing (bound.library lib.MsgBox (bound.next_expr (bound.typed types.str
            (bound.convert types.str (bound.typed types.integer (bound.constant (value.Int (pos 5)) origin.Literal)))) bound.no_exprs)))
            ∷ []);
        rules = (record { bits = 0 });
        mentions = ([]);
      });
    }) ∷ [])

abbrev pub bodies : List (List bound.Line)
bodies = body_0 ∷ []

abbrev pub program : bound.Program
program = record { declarations = declarations; bodies = bodies }

abbrev pub quiet : List (List Bool)
quiet = (([]) ∷ [])

abbrev pub lows : List (VarId × ℤ × ℤ)
lows = ([])

abbrev pub clean : List Bool
clean = (true ∷ [])

abbrev pub written : net.Project
written = (record {
  library = false;
  main = (Some (codes "Main1"));
  note = None;
  modules = ((record {
    name = (codes "Main1");
    class = false;
    members = (
        (net.proc (record {
          head = (net.sub net_visible.Public (codes "Main") ([]));
          prologue = (
              (net.local (record { name = (codes "s"); ty = net_types.str; value = None })) ∷ []);
          lines = (
              (net.call (net.path ((codes "UpgradeSupport") ∷ (codes "Box") ∷ [])) (net.next_exp (net.lit (net.str (codes "hello")))
              net.no_exps)) ∷
              (net.assign (net.path ((codes "s") ∷ [])) (net.call_of (net.path ((codes "UpgradeSupport") ∷ (codes "Ask") ∷ [])) (net.next_exp
              (net.lit (net.str (codes "name?"))) net.no_exps))) ∷
              (net.call (net.path ((codes "UpgradeSupport") ∷ (codes "PrintLine") ∷ [])) (net.next_exp (net.binary net_bin.Concat (net.binary
              net_bin.Concat (net.lit (net.str (codes "["))) (net.path ((codes "s") ∷ []))) (net.lit (net.str (codes "]")))) net.no_exps))
              ∷
              (net.call (net.path ((codes "UpgradeSupport") ∷ (codes "Box") ∷ [])) (net.next_exp (net.cast cast.CStr (net.lit (net.short
              (pos 5) false))) net.no_exps)) ∷ []);
          close = close.EndSub;
        })) ∷ []);
  }) ∷ []);
  support = (record {
    name = (codes "UpgradeSupport");
    class = false;
    members = (
        (net.proc (record {
          head = (net.sub net_visible.Public (codes "PrintLine") ((record {
            passing = net_passing.Value;
            name
                = (codes "s");
            ty = net_types.str;
          }) ∷ []));
          prologue = ([]);
          lines = (
              (net.call (net.path ((codes "System") ∷ (codes "Console") ∷ (codes "WriteLine") ∷ [])) (net.next_exp (net.path ((codes
              "s") ∷ [])) net.no_exps)) ∷ []);
          close = close.EndSub;
        })) ∷
        (net.proc (record {
          head = (net.sub net_visible.Public (codes "Box") ((record {
            passing = net_passing.Value;
            name = (codes
                "s");
            ty = net_types.str;
          }) ∷ []));
          prologue = ([]);
          lines = (
              (net.call (net.path ((codes "Microsoft") ∷ (codes "VisualBasic") ∷ (codes "Interaction") ∷ (codes "MsgBox") ∷ [])) (net.next_exp
              (net.path ((codes "s") ∷ [])) net.no_exps)) ∷ []);
          close = close.EndSub;
        })) ∷
        (net.proc (record {
          head = (net.function net_visible.Public (codes "Ask") ((record {
            passing = net_passing.Value;
            name
                = (codes "s");
            ty = net_types.str;
          }) ∷ []) net_types.str);
          prologue = ([]);
          lines = (
              (net.assign (net.path ((codes "Ask") ∷ [])) (net.call_of (net.path ((codes "Microsoft") ∷ (codes "VisualBasic") ∷ (codes
              "Interaction") ∷ (codes "InputBox") ∷ [])) (net.next_exp (net.path ((codes "s") ∷ [])) net.no_exps))) ∷ []);
          close = close.EndFunction;
        })) ∷ []);
  });
})

abbrev pub runnable : Runnable
runnable = runnable_of program quiet lows

said : ran runnable 0 2000 ≡ (
  note (codes "[box] hello")
      ++ note (codes "[ask] name?")
      ++ line (codes "[]")
      ++ note (codes "[box] 5"),
  ended,
)
unfolding digits
said = refl

said_written : ran_written written 0 2000 ≡ (
  note (codes "[box] hello")
      ++ note (codes "[ask] name?")
      ++ line (codes "[]")
      ++ note (codes "[box] 5"),
  ended,
)
unfolding digits
said_written = refl
