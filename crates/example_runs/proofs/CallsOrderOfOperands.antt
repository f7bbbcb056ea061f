-- The program calls-order-of-operands, what it puts out and how it ends.
use Rattle.std.proofs.Common.{◌≡◌, refl, ◌++◌, List, ℤ, pos, Bool, true, false, [], ◌∷◌, codes, Some, None}
use Rattle.vb_tree.specs.declared.declared.VarId.{VarId}
use Rattle.bound_tree.specs.Tree as bound
use Rattle.net_tree.specs.Tree as net
use Rattle.net_tree.specs.Types as net_types
use Rattle.vb_tree.specs.BoundTree as types
use Rattle.vb_tree.specs.Tree as vb
use Rattle.vb_tree.specs.declared.expression.BinOp.TheVariants as bin
use Rattle.net_tree.specs.declared.expression.CastWord.TheVariants as cast
use Rattle.net_tree.specs.declared.declaration.NetClose.TheVariants as close
use Rattle.vb_tree.specs.declared.declared.ProcKind.TheVariants as kind
use Rattle.vb_tree.specs.declared.token.Literal6.TheVariants as literal
use Rattle.bound_tree.specs.declared.body.Mention.TheVariants as mention
use Rattle.bound_tree.specs.declared.declared.Named.TheVariants as named
use Rattle.net_tree.specs.declared.expression.NetBin.TheVariants as net_bin
use Rattle.net_tree.specs.declared.declaration.NetPassing.TheVariants as net_passing
use Rattle.net_tree.specs.declared.declaration.NetVisibility.TheVariants as net_visible
use Rattle.bound_tree.specs.declared.expression.Origin.TheVariants as origin
use Rattle.vb_tree.specs.declared.declared.Owner.TheVariants as owner
use Rattle.vb_tree.specs.declared.form_parts.Passing.TheVariants as passing
use Rattle.vb_tree.specs.declared.project.ProjectKind.TheVariants as project_kind
use Rattle.bound_tree.specs.declared.declared.Scope.TheVariants as scope
use Rattle.vb_tree.specs.declared.token.Suffix.TheVariants as suffix
use Rattle.vb_tree.specs.declared.value.Value6.TheVariants as value
use Rattle.vb_tree.specs.declared.form_parts.Visibility.TheVariants as visible
use Rattle.std.specs.Fmt.{digits}
use Rattle.example_runs.proofs.Said.{ended, line, ran, runnable_of}
use Rattle.vb6_run.specs.Runnables.{Runnable}
use Rattle.vb6_meaning.specs.Bits.{from_bits}

abbrev pub project : vb.Project
project = (record {
  file = (record {
    kind = project_kind.Exe;
    startup = (Some (3, (codes "Sub Main")));
    entries = ((record
        { line = 2; class = false; name = (codes "Main1"); file = (codes "Main1.bas") }) ∷ []);
    dropped = ([]);
  });
  modules = ((record {
    file = 1;
    name = (codes "Main1");
    class = false;
    members = (
        (vb.proc (record {
          place = (record { file = 1; line = 1 });
          text = (codes "Function Say(ByVal n As Long) As Long");
          form
              = (vb.function_head (record {
                visibility = None;
                name = (codes "Say");
                suffix = suffix.Absent;
                params = ((record {
                  optional
                      = false;
                  passing = passing.Value;
                  param_array = false;
                  name = (codes "n");
                  suffix = suffix.Absent;
                  array = false;
                  ty =
                      (Some (vb.named (codes "Long")));
                  preset = None;
                }) ∷ []);
              }) (Some (record {
                ty = (vb.named (codes "Long"));
                array = false;
              })));
        }) (vb.next_node
        (vb.line (record {
          place = (record { file = 1; line = 2 });
          text = (68 ∷ 101 ∷ 98 ∷ 117 ∷ 103 ∷ 46 ∷ 80 ∷ 114 ∷ 105
              ∷ 110 ∷ 116 ∷ 32 ∷ 34 ∷ 115 ∷ 97 ∷ 121 ∷ 34 ∷ 59 ∷ 32 ∷ 110 ∷ []);
          form = (vb.debug_print ((vb.lit (literal.Str (codes
              "say"))) ∷ (vb.word (codes "n") suffix.Absent) ∷ []) false);
        })) (vb.next_node
        (vb.line (record {
          place = (record { file = 1; line = 3 });
          text = (codes "Say = n");
          form = (vb.assign (vb.word (codes
              "Say") suffix.Absent) (vb.word (codes "n") suffix.Absent));
        })) vb.no_nodes)) (record {
          place = (record {
            file = 1;
            line
                = 4;
          });
          text = (codes "End Function");
          form = vb.end_function;
        })) ∷
        (vb.proc (record {
          place = (record { file = 1; line = 6 });
          text = (codes "Sub Main()");
          form = (vb.sub_head (record {
            visibility = None;
            name = (codes "Main");
            suffix = suffix.Absent;
            params = ([]);
          }));
        }) (vb.next_node
        (vb.line (record {
          place = (record { file = 1; line = 7 });
          text = (codes "Debug.Print Say(1) + Say(2) * Say(3); Say(4)");
          form = (vb.debug_print ((vb.binary bin.Add (vb.index (vb.word (codes "Say") suffix.Absent) (vb.next_arg None false (vb.given
              (vb.lit (literal.Int (pos 1) false))) vb.no_args)) (vb.binary bin.Mul (vb.index (vb.word (codes "Say") suffix.Absent)
              (vb.next_arg None false (vb.given (vb.lit (literal.Int (pos 2) false))) vb.no_args)) (vb.index (vb.word (codes "Say")
              suffix.Absent) (vb.next_arg None false (vb.given (vb.lit (literal.Int (pos 3) false))) vb.no_args)))) ∷ (vb.index (vb.word
              (codes "Say") suffix.Absent) (vb.next_arg None false (vb.given (vb.lit (literal.Int (pos 4) false))) vb.no_args)) ∷ [])
              false);
        })) (vb.next_node
        (vb.block (record {
          place = (record { file = 1; line = 8 });
          text = (codes "If Say(5) > 5 And Say(6) > 5 Then");
          form
              = (vb.line_if (vb.binary bin.And (vb.binary bin.Greater (vb.index (vb.word (codes "Say") suffix.Absent) (vb.next_arg None
              false (vb.given (vb.lit (literal.Int (pos 5) false))) vb.no_args)) (vb.lit (literal.Int (pos 5) false))) (vb.binary bin.Greater
              (vb.index (vb.word (codes "Say") suffix.Absent) (vb.next_arg None false (vb.given (vb.lit (literal.Int (pos 6) false)))
              vb.no_args)) (vb.lit (literal.Int (pos 5) false)))));
        }) (vb.next_node
        (vb.line (record {
          place = (record { file = 1; line = 8 });
          text = (68 ∷ 101 ∷ 98 ∷ 117 ∷ 103 ∷ 46 ∷ 80 ∷ 114 ∷ 105
              ∷ 110 ∷ 116 ∷ 32 ∷ 34 ∷ 110 ∷ 101 ∷ 118 ∷ 101 ∷ 114 ∷ 34 ∷ []);
          form = (vb.debug_print ((vb.lit (literal.Str (codes "never")))
              ∷ []) false);
        })) vb.no_nodes) vb.no_middles (record {
          place = (record { file = 1; line = 8 });
          text = (codes "End If");
          form = vb.end_if;
        })) (vb.next_node
        (vb.block (record {
          place = (record { file = 1; line = 9 });
          text = (codes "If Say(7) > 5 Or Say(8) > 5 Then");
          form
              = (vb.line_if (vb.binary bin.Or (vb.binary bin.Greater (vb.index (vb.word (codes "Say") suffix.Absent) (vb.next_arg None
              false (vb.given (vb.lit (literal.Int (pos 7) false))) vb.no_args)) (vb.lit (literal.Int (pos 5) false))) (vb.binary bin.Greater
              (vb.index (vb.word (codes "Say") suffix.Absent) (vb.next_arg None false (vb.given (vb.lit (literal.Int (pos 8) false)))
              vb.no_args)) (vb.lit (literal.Int (pos 5) false)))));
        }) (vb.next_node
        (vb.line (record {
          place = (record { file = 1; line = 9 });
          text = (68 ∷ 101 ∷ 98 ∷ 117 ∷ 103 ∷ 46 ∷ 80 ∷ 114 ∷ 105
              ∷ 110 ∷ 116 ∷ 32 ∷ 34 ∷ 121 ∷ 101 ∷ 115 ∷ 34 ∷ []);
          form = (vb.debug_print ((vb.lit (literal.Str (codes "yes"))) ∷ [])
              false);
        })) vb.no_nodes) vb.no_middles (record {
          place = (record { file = 1; line = 9 });
          text = (codes "End If");
          form
              = vb.end_if;
        })) vb.no_nodes))) (record {
          place = (record { file = 1; line = 10 });
          text = (codes "End Sub");
          form = vb.end_sub;
        })) ∷ []);
    comments = ([]);
  }) ∷ []);
})

abbrev pub declarations : bound.Declarations
declarations = (record {
  project = project;
  names = (
      (record { name = (codes "Say"); scope = (scope.Public 1); named = (named.Proc (record { 0 = 0 })) }) ∷
      (record { name = (codes "n"); scope = (scope.Local (record { 0 = 0 })); named = (named.Var (record { 0 = 0 })) }) ∷
      (record { name = (codes "Say"); scope = (scope.Local (record { 0 = 0 })); named = (named.Var (record { 0 = 1 })) }) ∷
      (record { name = (codes "Main"); scope = (scope.Public 1); named = (named.Proc (record { 0 = 1 })) }) ∷ []);
  vars = (
      (record {
        name = (codes "n");
        place = (record { file = 1; line = 1 });
        statement = 0;
        owner = (owner.Value (record {
          0
              = 0;
        }));
        ty = types.long;
        named = types.long;
        qualified = false;
        lettered = None;
        bounds = ([]);
        auto = false;
        preset
            = None;
      }) ∷
      (record {
        name = (codes "Say");
        place = (record { file = 1; line = 1 });
        statement = 0;
        owner = (owner.Answer (record
            { 0 = 0 }));
        ty = types.long;
        named = types.long;
        qualified = false;
        lettered = None;
        bounds = ([]);
        auto = false;
        preset
            = None;
      }) ∷ []);
  consts = ([]);
  procs = (
      (record {
        name = (codes "Say");
        place = (record { file = 1; line = 1 });
        module_number = 1;
        kind = kind.Function;
        visibility
            = visible.Public;
        params = ((record { 0 = 0 }) ∷ []);
        result = types.long;
        answer = (Some (record { 0 = 1 }));
        first =
            (record { 0 = 0 });
      }) ∷
      (record {
        name = (codes "Main");
        place = (record { file = 1; line = 6 });
        module_number = 1;
        kind = kind.Sub;
        visibility
            = visible.Public;
        params = ([]);
        result = types.nothing;
        answer = None;
        first = (record { 0 = 1 });
      }) ∷ []);
  types = ([]);
  enums = ([]);
  defaults = ([]);
})

abbrev pub body_0 : List bound.Line
body_0 = (
    (record {
      source = (record {
        place = (record { file = 1; line = 2 });
        text = (68 ∷ 101 ∷ 98 ∷ 117 ∷ 103 ∷ 46 ∷ 80 ∷ 114
            ∷ 105 ∷ 110 ∷ 116 ∷ 32 ∷ 34 ∷ 115 ∷ 97 ∷ 121 ∷ 34 ∷ 59 ∷ 32 ∷ 110 ∷ []);
        form = (vb.debug_print ((vb.lit (literal.Str
            (codes "say"))) ∷ (vb.word (codes "n") suffix.Absent) ∷ []) false);
      });
      bindings = (record {
        exprs = ((bound.typed types.str
            (bound.constant (value.Str (codes "say")) origin.Literal)) ∷ (bound.typed types.long (bound.variable (record { 0 = 0 })
            false)) ∷ []);
        rules = (record { bits = 0 });
        mentions = ((mention.Var (record { 0 = 0 })) ∷ []);
      });
    }) ∷
    (record {
      source = (record {
        place = (record { file = 1; line = 3 });
        text = (codes "Say = n");
        form = (vb.assign (vb.word
            (codes "Say") suffix.Absent) (vb.word (codes "n") suffix.Absent));
      });
      bindings = (record {
        exprs = ((bound.typed types.long
            (bound.variable (record { 0 = 1 }) false)) ∷ (bound.typed types.long (bound.variable (record { 0 = 0 }) false)) ∷ []);
        rules = (record { bits = 0 });
        mentions = ((mention.Var (record { 0 = 1 })) ∷ (mention.Var (record { 0 = 0 })) ∷ []);
      });
    }) ∷ [])

abbrev pub body_1 : List bound.Line
body_1 = (
    (record {
      source = (record {
        place = (record { file = 1; line = 7 });
        text = (codes "Debug.Print Say(1) + Say(2) * Say(3); Say(4)");
        form = (vb.debug_print ((vb.binary bin.Add (vb.index (vb.word (codes "Say") suffix.Absent) (vb.next_arg None false (vb.given
            (vb.lit (literal.Int (pos 1) false))) vb.no_args)) (vb.binary bin.Mul (vb.index (vb.word (codes "Say") suffix.Absent)
            (vb.next_arg None false (vb.given (vb.lit (literal.Int (pos 2) false))) vb.no_args)) (vb.index (vb.word (codes "Say")
            suffix.Absent) (vb.next_arg None false (vb.given (vb.lit (literal.Int (pos 3) false))) vb.no_args)))) ∷ (vb.index (vb.word
            (codes "Say") suffix.Absent) (vb.next_arg None false (vb.given (vb.lit (literal.Int (pos 4) false))) vb.no_args)) ∷ [])
            false);
      });
      bindings = (record {
        exprs = ((bound.typed types.long (bound.binary bin.Add (bound.typed types.long (bound.call
            (record { 0 = 0 }) false bound.no_object (bound.next_passed (bound.by_value (bound.typed types.long (bound.convert types.long
            (bound.typed types.integer (bound.constant (value.Int (pos 1)) origin.Literal))))) bound.no_passed))) (bound.typed types.long
            (bound.binary bin.Mul (bound.typed types.long (bound.call (record { 0 = 0 }) false bound.no_object (bound.next_passed
            (bound.by_value (bound.typed types.long (bound.convert types.long (bound.typed types.integer (bound.constant (value.Int
            (pos 2)) origin.Literal))))) bound.no_passed))) (bound.typed types.long (bound.call (record { 0 = 0 }) false bound.no_object
            (bound.next_passed (bound.by_value (bound.typed types.long (bound.convert types.long (bound.typed types.integer (bound.constant
            (value.Int (pos 3)) origin.Literal))))) bound.no_passed))))))) ∷ (bound.typed types.long (bound.call (record { 0 = 0 })
            false bound.no_object (bound.next_passed (bound.by_value (bound.typed types.long (bound.convert types.long (bound.typed
            types.integer (bound.constant (value.Int (pos 4)) origin.Literal))))) bound.no_passed))) ∷ []);
        rules = (record {
          bits
              = 0;
        });
        mentions = ((mention.Proc (record { 0 = 0 })) ∷ (mention.Proc (record { 0 = 0 })) ∷ (mention.Proc (record {
          0
              = 0;
        })) ∷ (mention.Proc (record { 0 = 0 })) ∷ []);
      });
    }) ∷
    (record {
      source = (record {
        place = (record { file = 1; line = 8 });
        text = (codes "If Say(5) > 5 And Say(6) > 5 Then");
        form = (vb.line_if (vb.binary bin.And (vb.binary bin.Greater (vb.index (vb.word (codes "Say") suffix.Absent) (vb.next_arg
            None false (vb.given (vb.lit (literal.Int (pos 5) false))) vb.no_args)) (vb.lit (literal.Int (pos 5) false))) (vb.binary
            bin.Greater (vb.index (vb.word (codes "Say") suffix.Absent) (vb.next_arg None false (vb.given (vb.lit (literal.Int (pos
            6) false))) vb.no_args)) (vb.lit (literal.Int (pos 5) false)))));
      });
      bindings = (record {
        exprs = ((bound.typed types.boolean
            (bound.binary bin.And (bound.typed types.boolean (bound.binary bin.Greater (bound.typed types.long (bound.call (record
            { 0 = 0 }) false bound.no_object (bound.next_passed (bound.by_value (bound.typed types.long (bound.convert types.long
            (bound.typed types.integer (bound.constant (value.Int (pos 5)) origin.Literal))))) bound.no_passed))) (bound.typed types.long
            (bound.convert types.long (bound.typed types.integer (bound.constant (value.Int (pos 5)) origin.Literal)))))) (bound.typed
            types.boolean (bound.binary bin.Greater (bound.typed types.long (bound.call (record { 0 = 0 }) false bound.no_object (bound.next_passed
            (bound.by_value (bound.typed types.long (bound.convert types.long (bound.typed types.integer (bound.constant (value.Int
            (pos 6)) origin.Literal))))) bound.no_passed))) (bound.typed types.long (bound.convert types.long (bound.typed types.integer
            (bound.constant (value.Int (pos 5)) origin.Literal)))))))) ∷ []);
        rules = (record { bits = 0 });
        mentions = ((mention.Proc
            (record { 0 = 0 })) ∷ (mention.Proc (record { 0 = 0 })) ∷ []);
      });
    }) ∷
    (record {
      source = (record {
        place = (record { file = 1; line = 8 });
        text = (68 ∷ 101 ∷ 98 ∷ 117 ∷ 103 ∷ 46 ∷ 80 ∷ 114
            ∷ 105 ∷ 110 ∷ 116 ∷ 32 ∷ 34 ∷ 110 ∷ 101 ∷ 118 ∷ 101 ∷ 114 ∷ 34 ∷ []);
        form = (vb.debug_print ((vb.lit (literal.Str (codes
            "never"))) ∷ []) false);
      });
      bindings = (record {
        exprs = ((bound.typed types.str (bound.constant (value.Str (codes "never"))
            origin.Literal)) ∷ []);
        rules = (record { bits = 0 });
        mentions = ([]);
      });
    }) ∷
    (record {
      source = (record { place = (record { file = 1; line = 8 }); text = (codes "End If"); form = vb.end_if });
      bindings
          = (record { exprs = ([]); rules = (record { bits = 0 }); mentions = ([]) });
    }) ∷
    (record {
      source = (record {
        place = (record { file = 1; line = 9 });
        text = (codes "If Say(7) > 5 Or Say(8) > 5 Then");
        form = (vb.line_if (vb.binary bin.Or (vb.binary bin.Greater (vb.index (vb.word (codes "Say") suffix.Absent) (vb.next_arg
            None false (vb.given (vb.lit (literal.Int (pos 7) false))) vb.no_args)) (vb.lit (literal.Int (pos 5) false))) (vb.binary
            bin.Greater (vb.index (vb.word (codes "Say") suffix.Absent) (vb.next_arg None false (vb.given (vb.lit (literal.Int (pos
            8) false))) vb.no_args)) (vb.lit (literal.Int (pos 5) false)))));
      });
      bindings = (record {
        exprs = ((bound.typed types.boolean
            (bound.binary bin.Or (bound.typed types.boolean (bound.binary bin.Greater (bound.typed types.long (bound.call (record
            { 0 = 0 }) false bound.no_object (bound.next_passed (bound.by_value (bound.typed types.long (bound.convert types.long
            (bound.typed types.integer (bound.constant (value.Int (pos 7)) origin.Literal))))) bound.no_passed))) (bound.typed types.long
            (bound.convert types.long (bound.typed types.integer (bound.constant (value.Int (pos 5)) origin.Literal)))))) (bound.typed
            types.boolean (bound.binary bin.Greater (bound.typed types.long (bound.call (record { 0 = 0 }) false bound.no_object (bound.next_passed
            (bound.by_value (bound.typed types.long (bound.convert types.long (bound.typed types.integer (bound.constant (value.Int
            (pos 8)) origin.Literal))))) bound.no_passed))) (bound.typed types.long (bound.convert types.long (bound.typed types.integer
            (bound.constant (value.Int (pos 5)) origin.Literal)))))))) ∷ []);
        rules = (record { bits = 0 });
        mentions = ((mention.Proc
            (record { 0 = 0 })) ∷ (mention.Proc (record { 0 = 0 })) ∷ []);
      });
    }) ∷
    (record {
      source = (record {
        place = (record { file = 1; line = 9 });
        text = (68 ∷ 101 ∷ 98 ∷ 117 ∷ 103 ∷ 46 ∷ 80 ∷ 114
            ∷ 105 ∷ 110 ∷ 116 ∷ 32 ∷ 34 ∷ 121 ∷ 101 ∷ 115 ∷ 34 ∷ []);
        form = (vb.debug_print ((vb.lit (literal.Str (codes "yes")))
            ∷ []) false);
      });
      bindings = (record {
        exprs = ((bound.typed types.str (bound.constant (value.Str (codes "yes")) origin.Literal))
            ∷ []);
        rules = (record { bits = 0 });
        mentions = ([]);
      });
    }) ∷
    (record {
      source = (record { place = (record { file = 1; line = 9 }); text = (codes "End If"); form = vb.end_if });
      bindings
          = (record { exprs = ([]); rules = (record { bits = 0 }); mentions = ([]) });
    }) ∷ [])

abbrev pub bodies : List (List bound.Line)
bodies = body_0 ∷ body_1 ∷ []

abbrev pub program : bound.Program
program = record { declarations = declarations; bodies = bodies }

abbrev pub quiet : List (List Bool)
quiet = ((false ∷ []) ∷ ([]) ∷ [])

abbrev pub lows : List (VarId × ℤ × ℤ)
lows = ([])

abbrev pub clean : List Bool
clean = (true ∷ true ∷ [])

abbrev pub written : net.Project
written = (record {
  library = false;
  main = (Some (codes "Main1"));
  note = None;
  modules = ((record {
    name = (codes "Main1");
    class = false;
    members = (
        (net.proc (record {
          head = (net.function net_visible.Public (codes "Say") ((record {
            passing = net_passing.Value;
            name
                = (codes "n");
            ty = net_types.integer;
          }) ∷ []) net_types.integer);
          prologue = ([]);
          lines = (
              (net.call (net.path ((codes "UpgradeSupport") ∷ (codes "PrintLine") ∷ [])) (net.next_exp (net.binary net_bin.Concat (net.lit
              (net.str (codes "say"))) (net.call_of (net.path ((codes "UpgradeSupport") ∷ (codes "PrintNum") ∷ [])) (net.next_exp (net.cast
              cast.CDec (net.path ((codes "n") ∷ []))) net.no_exps))) net.no_exps)) ∷
              (net.assign (net.path ((codes "Say") ∷ [])) (net.path ((codes "n") ∷ []))) ∷ []);
          close = close.EndFunction;
        })) ∷
        (net.proc (record {
          head = (net.sub net_visible.Public (codes "Main") ([]));
          prologue = ([]);
          lines = (
              (net.call (net.path ((codes "UpgradeSupport") ∷ (codes "PrintLine") ∷ [])) (net.next_exp (net.binary net_bin.Concat (net.call_of
              (net.path ((codes "UpgradeSupport") ∷ (codes "PrintNum") ∷ [])) (net.next_exp (net.cast cast.CDec (net.binary net_bin.Add
              (net.call_of (net.path ((codes "Say") ∷ [])) (net.next_exp (net.lit (net.integer (pos 1) false)) net.no_exps)) (net.binary
              net_bin.Mul (net.call_of (net.path ((codes "Say") ∷ [])) (net.next_exp (net.lit (net.integer (pos 2) false)) net.no_exps))
              (net.call_of (net.path ((codes "Say") ∷ [])) (net.next_exp (net.lit (net.integer (pos 3) false)) net.no_exps))))) net.no_exps))
              (net.call_of (net.path ((codes "UpgradeSupport") ∷ (codes "PrintNum") ∷ [])) (net.next_exp (net.cast cast.CDec (net.call_of
              (net.path ((codes "Say") ∷ [])) (net.next_exp (net.lit (net.integer (pos 4) false)) net.no_exps))) net.no_exps))) net.no_exps))
              ∷
              (net.if_head (net.binary net_bin.And (net.binary net_bin.Greater (net.call_of (net.path ((codes "Say") ∷ [])) (net.next_exp
              (net.lit (net.integer (pos 5) false)) net.no_exps)) (net.lit (net.integer (pos 5) false))) (net.binary net_bin.Greater
              (net.call_of (net.path ((codes "Say") ∷ [])) (net.next_exp (net.lit (net.integer (pos 6) false)) net.no_exps)) (net.lit
              (net.integer (pos 5) false))))) ∷
              (net.call (net.path ((codes "UpgradeSupport") ∷ (codes "PrintLine") ∷ [])) (net.next_exp (net.lit (net.str (codes "never")))
              net.no_exps)) ∷
              net.end_if ∷
              (net.if_head (net.binary net_bin.Or (net.binary net_bin.Greater (net.call_of (net.path ((codes "Say") ∷ [])) (net.next_exp
              (net.lit (net.integer (pos 7) false)) net.no_exps)) (net.lit (net.integer (pos 5) false))) (net.binary net_bin.Greater
              (net.call_of (net.path ((codes "Say") ∷ [])) (net.next_exp (net.lit (net.integer (pos 8) false)) net.no_exps)) (net.lit
              (net.integer (pos 5) false))))) ∷
              (net.call (net.path ((codes "UpgradeSupport") ∷ (codes "PrintLine") ∷ [])) (net.next_exp (net.lit (net.str (codes "yes")))
              net.no_exps)) ∷
              net.end_if ∷ []);
          close = close.EndSub;
        })) ∷ []);
  }) ∷ []);
  support = (record {
    name = (codes "UpgradeSupport");
    class
        = false;
    members = (
        (net.proc (record {
          head = (net.sub net_visible.Public (codes "PrintLine") ((record {
            passing = net_passing.Value;
            name
                = (codes "s");
            ty = net_types.str;
          }) ∷ []));
          prologue = ([]);
          lines = (
              (net.call (net.path ((codes "System") ∷ (codes "Console") ∷ (codes "WriteLine") ∷ [])) (net.next_exp (net.path ((codes
              "s") ∷ [])) net.no_exps)) ∷ []);
          close = close.EndSub;
        })) ∷
        (net.proc (record {
          head = (net.function net_visible.Public (codes "CurText") ((record {
            passing = net_passing.Value;
            name = (codes "d");
            ty = net_types.decimal;
          }) ∷ []) net_types.str);
          prologue = ([]);
          lines = (
              (net.assign (net.path ((codes "CurText") ∷ [])) (net.call_of (net.path ((codes "d") ∷ (codes "ToString") ∷ [])) (net.next_exp
              (net.lit (net.str (codes "0.####"))) (net.next_exp (net.path ((codes "System") ∷ (codes "Globalization") ∷ (codes "CultureInfo")
              ∷ (codes "InvariantCulture") ∷ [])) net.no_exps)))) ∷ []);
          close = close.EndFunction;
        })) ∷
        (net.proc (record {
          head = (net.function net_visible.Public (codes "PrintNum") ((record {
            passing = net_passing.Value;
            name = (codes "d");
            ty = net_types.decimal;
          }) ∷ []) net_types.str);
          prologue = ([]);
          lines = (
              (net.if_head (net.binary net_bin.Less (net.path ((codes "d") ∷ [])) (net.lit (net.decimal (pos 0))))) ∷
              (net.assign (net.path ((codes "PrintNum") ∷ [])) (net.binary net_bin.Concat (net.call_of (net.path ((codes "CurText")
              ∷ [])) (net.next_exp (net.path ((codes "d") ∷ [])) net.no_exps)) (net.lit (net.str (codes " "))))) ∷
              net.else_line ∷
              (net.assign (net.path ((codes "PrintNum") ∷ [])) (net.binary net_bin.Concat (net.binary net_bin.Concat (net.lit (net.str
              (codes " "))) (net.call_of (net.path ((codes "CurText") ∷ [])) (net.next_exp (net.path ((codes "d") ∷ [])) net.no_exps)))
              (net.lit (net.str (codes " "))))) ∷
              net.end_if ∷ []);
          close = close.EndFunction;
        })) ∷ []);
  });
})

abbrev pub runnable : Runnable
runnable = runnable_of program quiet lows

said : ran runnable 1 2000 ≡ (
  line (codes "say 1 ")
      ++ line (codes "say 2 ")
      ++ line (codes "say 3 ")
      ++ line (codes "say 4 ")
      ++ line (codes " 7  4 ")
      ++ line (codes "say 5 ")
      ++ line (codes "say 6 ")
      ++ line (codes "say 7 ")
      ++ line (codes "say 8 ")
      ++ line (codes "yes"),
  ended,
)
unfolding digits from_bits
said = refl
