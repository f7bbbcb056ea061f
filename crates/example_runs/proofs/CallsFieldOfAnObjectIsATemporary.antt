-- The program calls-field-of-an-object-is-a-temporary, what it puts out and how it ends.
use Rattle.std.proofs.Common.{◌≡◌, refl, ◌++◌, List, ℤ, pos, Bool, true, false, [], ◌∷◌, codes, Some, None}
use Rattle.vb_tree.specs.declared.declared.VarId.{VarId}
use Rattle.bound_tree.specs.Tree as bound
use Rattle.net_tree.specs.Tree as net
use Rattle.net_tree.specs.Types as net_types
use Rattle.vb_tree.specs.BoundTree as types
use Rattle.vb_tree.specs.Tree as vb
use Rattle.vb_tree.specs.declared.expression.BinOp.TheVariants as bin
use Rattle.net_tree.specs.declared.expression.CastWord.TheVariants as cast
use Rattle.net_tree.specs.declared.declaration.NetClose.TheVariants as close
use Rattle.vb_tree.specs.declared.declared.ProcKind.TheVariants as kind
use Rattle.vb_tree.specs.declared.token.Literal6.TheVariants as literal
use Rattle.bound_tree.specs.declared.body.Mention.TheVariants as mention
use Rattle.bound_tree.specs.declared.declared.Named.TheVariants as named
use Rattle.net_tree.specs.declared.expression.NetBin.TheVariants as net_bin
use Rattle.net_tree.specs.declared.declaration.NetPassing.TheVariants as net_passing
use Rattle.net_tree.specs.declared.declaration.NetVisibility.TheVariants as net_visible
use Rattle.bound_tree.specs.declared.expression.Origin.TheVariants as origin
use Rattle.vb_tree.specs.declared.declared.Owner.TheVariants as owner
use Rattle.vb_tree.specs.declared.form_parts.Passing.TheVariants as passing
use Rattle.vb_tree.specs.declared.project.ProjectKind.TheVariants as project_kind
use Rattle.bound_tree.specs.declared.declared.Scope.TheVariants as scope
use Rattle.vb_tree.specs.declared.token.Suffix.TheVariants as suffix
use Rattle.vb_tree.specs.declared.value.Value6.TheVariants as value
use Rattle.vb_tree.specs.declared.form_parts.VarWord.TheVariants as var
use Rattle.vb_tree.specs.declared.form_parts.Visibility.TheVariants as visible
use Rattle.std.specs.Fmt.{digits}
use Rattle.example_runs.proofs.Said.{ended, line, ran, runnable_of}
use Rattle.vb6_run.specs.Runnables.{Runnable}

abbrev pub project : vb.Project
project = (record {
  file = (record {
    kind = project_kind.Exe;
    startup = (Some (4, (codes "Sub Main")));
    entries = ((record
        { line = 2; class = false; name = (codes "Main1"); file = (codes "Main1.bas") }) ∷ (record {
          line = 3;
          class = true;
          name
              = (codes "Node");
          file = (codes "Node.cls");
        }) ∷ []);
    dropped = ([]);
  });
  modules = ((record {
    file = 1;
    name = (codes
        "Main1");
    class = false;
    members = (
        (vb.proc (record {
          place = (record { file = 1; line = 1 });
          text = (codes "Function Peek(q As Long, ByVal z As Long) As Long");
          form = (vb.function_head (record {
            visibility = None;
            name = (codes "Peek");
            suffix = suffix.Absent;
            params = ((record {
              optional = false;
              passing = passing.Unsaid;
              param_array = false;
              name = (codes "q");
              suffix = suffix.Absent;
              array =
                  false;
              ty = (Some (vb.named (codes "Long")));
              preset = None;
            }) ∷ (record {
              optional = false;
              passing = passing.Value;
              param_array = false;
              name = (codes "z");
              suffix = suffix.Absent;
              array = false;
              ty = (Some (vb.named (codes "Long")));
              preset = None;
            }) ∷ []);
          }) (Some (record { ty = (vb.named (codes "Long")); array = false })));
        }) (vb.next_node
        (vb.line (record {
          place = (record { file = 1; line = 2 });
          text = (codes "Peek = q * 100 + z");
          form = (vb.assign (vb.word
              (codes "Peek") suffix.Absent) (vb.binary bin.Add (vb.binary bin.Mul (vb.word (codes "q") suffix.Absent) (vb.lit (literal.Int
              (pos 100) false))) (vb.word (codes "z") suffix.Absent)));
        })) vb.no_nodes) (record {
          place = (record {
            file = 1;
            line =
                3;
          });
          text = (codes "End Function");
          form = vb.end_function;
        })) ∷
        (vb.proc (record {
          place = (record { file = 1; line = 5 });
          text = (codes "Function Bump(ByVal o As Node) As Long");
          form
              = (vb.function_head (record {
                visibility = None;
                name = (codes "Bump");
                suffix = suffix.Absent;
                params = ((record {
                  optional
                      = false;
                  passing = passing.Value;
                  param_array = false;
                  name = (codes "o");
                  suffix = suffix.Absent;
                  array = false;
                  ty =
                      (Some (vb.named (codes "Node")));
                  preset = None;
                }) ∷ []);
              }) (Some (record {
                ty = (vb.named (codes "Long"));
                array = false;
              })));
        }) (vb.next_node
        (vb.line (record {
          place = (record { file = 1; line = 6 });
          text = (codes "o.k = o.k + 1");
          form = (vb.assign (vb.member
              (vb.word (codes "o") suffix.Absent) (codes "k")) (vb.binary bin.Add (vb.member (vb.word (codes "o") suffix.Absent) (codes
              "k")) (vb.lit (literal.Int (pos 1) false))));
        })) (vb.next_node
        (vb.line (record {
          place = (record { file = 1; line = 7 });
          text = (codes "Bump = o.k");
          form = (vb.assign (vb.word
              (codes "Bump") suffix.Absent) (vb.member (vb.word (codes "o") suffix.Absent) (codes "k")));
        })) vb.no_nodes)) (record {
          place = (record { file = 1; line = 8 });
          text = (codes "End Function");
          form = vb.end_function;
        })) ∷
        (vb.proc (record {
          place = (record { file = 1; line = 10 });
          text = (codes "Sub Inc(n As Long)");
          form = (vb.sub_head
              (record {
                visibility = None;
                name = (codes "Inc");
                suffix = suffix.Absent;
                params = ((record {
                  optional = false;
                  passing
                      = passing.Unsaid;
                  param_array = false;
                  name = (codes "n");
                  suffix = suffix.Absent;
                  array = false;
                  ty = (Some (vb.named
                      (codes "Long")));
                  preset = None;
                }) ∷ []);
              }));
        }) (vb.next_node
        (vb.line (record {
          place = (record { file = 1; line = 11 });
          text = (codes "n = n + 1");
          form = (vb.assign (vb.word
              (codes "n") suffix.Absent) (vb.binary bin.Add (vb.word (codes "n") suffix.Absent) (vb.lit (literal.Int (pos 1) false))));
        })) vb.no_nodes) (record { place = (record { file = 1; line = 12 }); text = (codes "End Sub"); form = vb.end_sub })) ∷
        (vb.proc (record {
          place = (record { file = 1; line = 14 });
          text = (codes "Sub Main()");
          form = (vb.sub_head (record
              { visibility = None; name = (codes "Main"); suffix = suffix.Absent; params = ([]) }));
        }) (vb.next_node
        (vb.line (record {
          place = (record { file = 1; line = 15 });
          text = (codes "Dim o As Node");
          form = (vb.variables var.Dim
              ((record {
                name = (codes "o");
                suffix = suffix.Absent;
                bounds = None;
                auto = false;
                ty = (Some (vb.named (codes "Node")));
              }) ∷ []));
        })) (vb.next_node
        (vb.line (record {
          place = (record { file = 1; line = 16 });
          text = (codes "Set o = New Node");
          form = (vb.set (vb.word
              (codes "o") suffix.Absent) (vb.new_object (codes "Node")));
        })) (vb.next_node
        (vb.line (record {
          place = (record { file = 1; line = 17 });
          text = (codes "o.k = 5");
          form = (vb.assign (vb.member
              (vb.word (codes "o") suffix.Absent) (codes "k")) (vb.lit (literal.Int (pos 5) false)));
        })) (vb.next_node
        (vb.line (record {
          place = (record { file = 1; line = 18 });
          text = (codes "Debug.Print Peek(o.k, Bump(o))");
          form =
              (vb.debug_print ((vb.index (vb.word (codes "Peek") suffix.Absent) (vb.next_arg None false (vb.given (vb.member (vb.word
              (codes "o") suffix.Absent) (codes "k"))) (vb.next_arg None false (vb.given (vb.index (vb.word (codes "Bump") suffix.Absent)
              (vb.next_arg None false (vb.given (vb.word (codes "o") suffix.Absent)) vb.no_args))) vb.no_args))) ∷ []) false);
        })) (vb.next_node
        (vb.line (record {
          place = (record { file = 1; line = 19 });
          text = (codes "Inc (o.k)");
          form = (vb.invoke (vb.word
              (codes "Inc") suffix.Absent) (vb.next_arg None false (vb.given (vb.paren (vb.member (vb.word (codes "o") suffix.Absent)
              (codes "k")))) vb.no_args));
        })) (vb.next_node
        (vb.line (record {
          place = (record { file = 1; line = 20 });
          text = (codes "Debug.Print o.k");
          form = (vb.debug_print
              ((vb.member (vb.word (codes "o") suffix.Absent) (codes "k")) ∷ []) false);
        })) vb.no_nodes)))))) (record {
          place = (record
              { file = 1; line = 21 });
          text = (codes "End Sub");
          form = vb.end_sub;
        })) ∷ []);
    comments = ([]);
  }) ∷ (record {
    file =
        2;
    name = (codes "Node");
    class = true;
    members = (
        (vb.alone (record {
          place = (record { file = 2; line = 4 });
          text = (codes "Public k As Long");
          form = (vb.variables var.Public
              ((record {
                name = (codes "k");
                suffix = suffix.Absent;
                bounds = None;
                auto = false;
                ty = (Some (vb.named (codes "Long")));
              }) ∷ []));
        })) ∷ []);
    comments = ([]);
  }) ∷ []);
})

abbrev pub declarations : bound.Declarations
declarations = (record {
  project = project;
  names = (
      (record { name = (codes "Peek"); scope = (scope.Public 1); named = (named.Proc (record { 0 = 0 })) }) ∷
      (record { name = (codes "q"); scope = (scope.Local (record { 0 = 0 })); named = (named.Var (record { 0 = 0 })) }) ∷
      (record { name = (codes "z"); scope = (scope.Local (record { 0 = 0 })); named = (named.Var (record { 0 = 1 })) }) ∷
      (record { name = (codes "Peek"); scope = (scope.Local (record { 0 = 0 })); named = (named.Var (record { 0 = 2 })) }) ∷
      (record { name = (codes "Bump"); scope = (scope.Public 1); named = (named.Proc (record { 0 = 1 })) }) ∷
      (record { name = (codes "o"); scope = (scope.Local (record { 0 = 1 })); named = (named.Var (record { 0 = 3 })) }) ∷
      (record { name = (codes "Bump"); scope = (scope.Local (record { 0 = 1 })); named = (named.Var (record { 0 = 4 })) }) ∷
      (record { name = (codes "Inc"); scope = (scope.Public 1); named = (named.Proc (record { 0 = 2 })) }) ∷
      (record { name = (codes "n"); scope = (scope.Local (record { 0 = 2 })); named = (named.Var (record { 0 = 5 })) }) ∷
      (record { name = (codes "Main"); scope = (scope.Public 1); named = (named.Proc (record { 0 = 3 })) }) ∷
      (record { name = (codes "o"); scope = (scope.Local (record { 0 = 3 })); named = (named.Var (record { 0 = 6 })) }) ∷
      (record { name = (codes "k"); scope = (scope.Public 2); named = (named.Var (record { 0 = 7 })) }) ∷ []);
  vars = (
      (record {
        name = (codes "q");
        place = (record { file = 1; line = 1 });
        statement = 0;
        owner = (owner.Reference (record
            { 0 = 0 }));
        ty = types.long;
        named = types.long;
        qualified = false;
        lettered = None;
        bounds = ([]);
        auto = false;
        preset
            = None;
      }) ∷
      (record {
        name = (codes "z");
        place = (record { file = 1; line = 1 });
        statement = 0;
        owner = (owner.Value (record {
          0
              = 0;
        }));
        ty = types.long;
        named = types.long;
        qualified = false;
        lettered = None;
        bounds = ([]);
        auto = false;
        preset
            = None;
      }) ∷
      (record {
        name = (codes "Peek");
        place = (record { file = 1; line = 1 });
        statement = 0;
        owner = (owner.Answer (record
            { 0 = 0 }));
        ty = types.long;
        named = types.long;
        qualified = false;
        lettered = None;
        bounds = ([]);
        auto = false;
        preset
            = None;
      }) ∷
      (record {
        name = (codes "o");
        place = (record { file = 1; line = 5 });
        statement = 3;
        owner = (owner.Value (record {
          0
              = 1;
        }));
        ty = (types.class 0);
        named = (types.class 0);
        qualified = false;
        lettered = None;
        bounds = ([]);
        auto = false;
        preset = None;
      }) ∷
      (record {
        name = (codes "Bump");
        place = (record { file = 1; line = 5 });
        statement = 3;
        owner = (owner.Answer (record
            { 0 = 1 }));
        ty = types.long;
        named = types.long;
        qualified = false;
        lettered = None;
        bounds = ([]);
        auto = false;
        preset
            = None;
      }) ∷
      (record {
        name = (codes "n");
        place = (record { file = 1; line = 10 });
        statement = 7;
        owner = (owner.Reference (record
            { 0 = 2 }));
        ty = types.long;
        named = types.long;
        qualified = false;
        lettered = None;
        bounds = ([]);
        auto = false;
        preset
            = None;
      }) ∷
      (record {
        name = (codes "o");
        place = (record { file = 1; line = 15 });
        statement = 11;
        owner = (owner.Local (record {
          0 = 3;
        }));
        ty = (types.class 0);
        named = (types.class 0);
        qualified = false;
        lettered = None;
        bounds = ([]);
        auto = false;
        preset = None;
      }) ∷
      (record {
        name = (codes "k");
        place = (record { file = 2; line = 4 });
        statement = 0;
        owner = (owner.Module 2);
        ty = types.long;
        named = types.long;
        qualified = false;
        lettered = None;
        bounds = ([]);
        auto = false;
        preset = None;
      }) ∷ []);
  consts =
      ([]);
  procs = (
      (record {
        name = (codes "Peek");
        place = (record { file = 1; line = 1 });
        module_number = 1;
        kind = kind.Function;
        visibility
            = visible.Public;
        params = ((record { 0 = 0 }) ∷ (record { 0 = 1 }) ∷ []);
        result = types.long;
        answer = (Some (record
            { 0 = 2 }));
        first = (record { 0 = 0 });
      }) ∷
      (record {
        name = (codes "Bump");
        place = (record { file = 1; line = 5 });
        module_number = 1;
        kind = kind.Function;
        visibility
            = visible.Public;
        params = ((record { 0 = 3 }) ∷ []);
        result = types.long;
        answer = (Some (record { 0 = 4 }));
        first =
            (record { 0 = 1 });
      }) ∷
      (record {
        name = (codes "Inc");
        place = (record { file = 1; line = 10 });
        module_number = 1;
        kind = kind.Sub;
        visibility
            = visible.Public;
        params = ((record { 0 = 5 }) ∷ []);
        result = types.nothing;
        answer = None;
        first = (record { 0 = 2 });
      }) ∷
      (record {
        name = (codes "Main");
        place = (record { file = 1; line = 14 });
        module_number = 1;
        kind = kind.Sub;
        visibility
            = visible.Public;
        params = ([]);
        result = types.nothing;
        answer = None;
        first = (record { 0 = 3 });
      }) ∷ []);
  types = ([]);
  enums = ([]);
  defaults = (None ∷ []);
})

abbrev pub body_0 : List bound.Line
body_0 = (
    (record {
      source = (record {
        place = (record { file = 1; line = 2 });
        text = (codes "Peek = q * 100 + z");
        form = (vb.assign
            (vb.word (codes "Peek") suffix.Absent) (vb.binary bin.Add (vb.binary bin.Mul (vb.word (codes "q") suffix.Absent) (vb.lit
            (literal.Int (pos 100) false))) (vb.word (codes "z") suffix.Absent)));
      });
      bindings = (record {
        exprs = ((bound.typed types.long
            (bound.variable (record { 0 = 2 }) false)) ∷ (bound.typed types.long (bound.binary bin.Add (bound.typed types.long (bound.binary
            bin.Mul (bound.typed types.long (bound.variable (record { 0 = 0 }) false)) (bound.typed types.long (bound.convert types.long
            (bound.typed types.integer (bound.constant (value.Int (pos 100)) origin.Literal)))))) (bound.typed types.long (bound.variable
            (record { 0 = 1 }) false)))) ∷ []);
        rules = (record { bits = 0 });
        mentions = ((mention.Var (record { 0 = 2 })) ∷ (mention.Var
            (record { 0 = 0 })) ∷ (mention.Var (record { 0 = 1 })) ∷ []);
      });
    }) ∷ [])

abbrev pub body_1 : List bound.Line
body_1 = (
    (record {
      source = (record {
        place = (record { file = 1; line = 6 });
        text = (codes "o.k = o.k + 1");
        form = (vb.assign
            (vb.member (vb.word (codes "o") suffix.Absent) (codes "k")) (vb.binary bin.Add (vb.member (vb.word (codes "o") suffix.Absent)
            (codes "k")) (vb.lit (literal.Int (pos 1) false))));
      });
      bindings = (record {
        exprs = ((bound.typed types.long (bound.field
            (bound.typed (types.class 0) (bound.variable (record { 0 = 3 }) false)) 0)) ∷ (bound.typed types.long (bound.binary bin.Add
            (bound.typed types.long (bound.field (bound.typed (types.class 0) (bound.variable (record { 0 = 3 }) false)) 0)) (bound.typed
            types.long (bound.convert types.long (bound.typed types.integer (bound.constant (value.Int (pos 1)) origin.Literal))))))
            ∷ []);
        rules = (record { bits = 0 });
        mentions = ((mention.Var (record { 0 = 7 })) ∷ (mention.Var (record { 0 = 3 }))
            ∷ (mention.Var (record { 0 = 7 })) ∷ (mention.Var (record { 0 = 3 })) ∷ []);
      });
    }) ∷
    (record {
      source = (record {
        place = (record { file = 1; line = 7 });
        text = (codes "Bump = o.k");
        form = (vb.assign (vb.word
            (codes "Bump") suffix.Absent) (vb.member (vb.word (codes "o") suffix.Absent) (codes "k")));
      });
      bindings = (record {
        exprs
            = ((bound.typed types.long (bound.variable (record { 0 = 4 }) false)) ∷ (bound.typed types.long (bound.field (bound.typed
            (types.class 0) (bound.variable (record { 0 = 3 }) false)) 0)) ∷ []);
        rules = (record { bits = 0 });
        mentions = ((mention.Var
            (record { 0 = 4 })) ∷ (mention.Var (record { 0 = 7 })) ∷ (mention.Var (record { 0 = 3 })) ∷ []);
      });
    }) ∷ [])

abbrev pub body_2 : List bound.Line
body_2 = (
    (record {
      source = (record {
        place = (record { file = 1; line = 11 });
        text = (codes "n = n + 1");
        form = (vb.assign (vb.word
            (codes "n") suffix.Absent) (vb.binary bin.Add (vb.word (codes "n") suffix.Absent) (vb.lit (literal.Int (pos 1) false))));
      });
      bindings = (record {
        exprs = ((bound.typed types.long (bound.variable (record { 0 = 5 }) false)) ∷ (bound.typed types.long
            (bound.binary bin.Add (bound.typed types.long (bound.variable (record { 0 = 5 }) false)) (bound.typed types.long (bound.convert
            types.long (bound.typed types.integer (bound.constant (value.Int (pos 1)) origin.Literal)))))) ∷ []);
        rules = (record
            { bits = 0 });
        mentions = ((mention.Var (record { 0 = 5 })) ∷ (mention.Var (record { 0 = 5 })) ∷ []);
      });
    }) ∷ [])

abbrev pub body_3 : List bound.Line
body_3 = (
    (record {
      source = (record {
        place = (record { file = 1; line = 16 });
        text = (codes "Set o = New Node");
        form = (vb.set
            (vb.word (codes "o") suffix.Absent) (vb.new_object (codes "Node")));
      });
      bindings = (record {
        exprs = ((bound.typed (types.class
            0) (bound.variable (record { 0 = 6 }) false)) ∷ (bound.typed (types.class 0) (bound.new_object (record { 0 = 0 }))) ∷
            []);
        rules = (record { bits = 0 });
        mentions = ((mention.Var (record { 0 = 6 })) ∷ (mention.Class (record { 0 = 0 }))
            ∷ []);
      });
    }) ∷
    (record {
      source = (record {
        place = (record { file = 1; line = 17 });
        text = (codes "o.k = 5");
        form = (vb.assign (vb.member
            (vb.word (codes "o") suffix.Absent) (codes "k")) (vb.lit (literal.Int (pos 5) false)));
      });
      bindings = (record {
        exprs
            = ((bound.typed types.long (bound.field (bound.typed (types.class 0) (bound.variable (record { 0 = 6 }) false)) 0)) ∷
            (bound.typed types.long (bound.convert types.long (bound.typed types.integer (bound.constant (value.Int (pos 5)) origin.Literal))))
            ∷ []);
        rules = (record { bits = 0 });
        mentions = ((mention.Var (record { 0 = 7 })) ∷ (mention.Var (record { 0 = 6 }))
            ∷ []);
      });
    }) ∷
    (record {
      source = (record {
        place = (record { file = 1; line = 18 });
        text = (codes "Debug.Print Peek(o.k, Bump(o))");
        form = (vb.debug_print ((vb.index (vb.word (codes "Peek") suffix.Absent) (vb.next_arg None false (vb.given (vb.member
            (vb.word (codes "o") suffix.Absent) (codes "k"))) (vb.next_arg None false (vb.given (vb.index (vb.word (codes "Bump")
            suffix.Absent) (vb.next_arg None false (vb.given (vb.word (codes "o") suffix.Absent)) vb.no_args))) vb.no_args))) ∷ [])
            false);
      });
      bindings = (record {
        exprs = ((bound.typed types.long (bound.call (record { 0 = 0 }) false bound.no_object
            (bound.next_passed (bound.by_reference (bound.typed types.long (bound.field (bound.typed (types.class 0) (bound.variable
            (record { 0 = 6 }) false)) 0))) (bound.next_passed (bound.by_value (bound.typed types.long (bound.call (record {
              0 = 1;
            }) false bound.no_object (bound.next_passed (bound.by_value (bound.typed (types.class 0) (bound.variable (record {
              0 =
                  6;
            }) false))) bound.no_passed)))) bound.no_passed)))) ∷ []);
        rules = (record { bits = 0 });
        mentions = ((mention.Proc
            (record { 0 = 0 })) ∷ (mention.Var (record { 0 = 7 })) ∷ (mention.Var (record { 0 = 6 })) ∷ (mention.Proc (record {
              0
                  = 1;
            })) ∷ (mention.Var (record { 0 = 6 })) ∷ []);
      });
    }) ∷
    (record {
      source = (record {
        place = (record { file = 1; line = 19 });
        text = (codes "Inc (o.k)");
        form = (vb.invoke (vb.word
            (codes "Inc") suffix.Absent) (vb.next_arg None false (vb.given (vb.paren (vb.member (vb.word (codes "o") suffix.Absent)
            (codes "k")))) vb.no_args));
      });
      bindings = (record {
        exprs = ((bound.typed types.nothing (bound.call (record { 0 = 2 })
            false bound.no_object (bound.next_passed (bound.by_value (bound.typed types.long (bound.field (bound.typed (types.class
            0) (bound.variable (record { 0 = 6 }) false)) 0))) bound.no_passed))) ∷ []);
        rules = (record { bits = 0 });
        mentions =
            ((mention.Proc (record { 0 = 2 })) ∷ (mention.Var (record { 0 = 7 })) ∷ (mention.Var (record { 0 = 6 })) ∷ []);
      });
    }) ∷
    (record {
      source = (record {
        place = (record { file = 1; line = 20 });
        text = (codes "Debug.Print o.k");
        form = (vb.debug_print
            ((vb.member (vb.word (codes "o") suffix.Absent) (codes "k")) ∷ []) false);
      });
      bindings = (record {
        exprs = ((bound.typed
            types.long (bound.field (bound.typed (types.class 0) (bound.variable (record { 0 = 6 }) false)) 0)) ∷ []);
        rules = (record
            { bits = 0 });
        mentions = ((mention.Var (record { 0 = 7 })) ∷ (mention.Var (record { 0 = 6 })) ∷ []);
      });
    }) ∷ [])

abbrev pub bodies : List (List bound.Line)
bodies = body_0 ∷ body_1 ∷ body_2 ∷ body_3 ∷ []

abbrev pub program : bound.Program
program = record { declarations = declarations; bodies = bodies }

abbrev pub quiet : List (List Bool)
quiet = ((true ∷ false ∷ []) ∷ (false ∷ []) ∷ (false ∷ []) ∷ ([]) ∷ [])

abbrev pub lows : List (VarId × ℤ × ℤ)
lows = ([])

abbrev pub clean : List Bool
clean = (true ∷ true ∷ true ∷ true ∷ [])

abbrev pub written : net.Project
written = (record {
  library = false;
  main = (Some (codes "Main1"));
  note = None;
  modules = ((record {
    name = (codes "Main1");
    class = false;
    members = (
        (net.proc (record {
          head = (net.function net_visible.Public (codes "Peek") ((record {
            passing = net_passing.Reference;
            name = (codes "q");
            ty = net_types.integer;
          }) ∷ (record {
            passing = net_passing.Value;
            name = (codes "z");
            ty = net_types.integer;
          }) ∷ []) net_types.integer);
          prologue = ([]);
          lines = (
              (net.assign (net.path ((codes "Peek") ∷ [])) (net.binary net_bin.Add (net.binary net_bin.Mul (net.path ((codes "q") ∷
              [])) (net.lit (net.integer (pos 100) false))) (net.path ((codes "z") ∷ [])))) ∷ []);
          close = close.EndFunction;
        })) ∷
        (net.proc (record {
          head = (net.function net_visible.Public (codes "Bump") ((record {
            passing = net_passing.Value;
            name
                = (codes "o");
            ty = (net_types.named ((codes "Node") ∷ []));
          }) ∷ []) net_types.integer);
          prologue = ([]);
          lines = (
              (net.assign (net.path ((codes "o") ∷ (codes "k") ∷ [])) (net.binary net_bin.Add (net.path ((codes "o") ∷ (codes "k") ∷
              [])) (net.lit (net.integer (pos 1) false)))) ∷
              (net.assign (net.path ((codes "Bump") ∷ [])) (net.path ((codes "o") ∷ (codes "k") ∷ []))) ∷ []);
          close = close.EndFunction;
        })) ∷
        (net.proc (record {
          head = (net.sub net_visible.Public (codes "Inc") ((record {
            passing = net_passing.Reference;
            name
                = (codes "n");
            ty = net_types.integer;
          }) ∷ []));
          prologue = ([]);
          lines = (
              (net.assign (net.path ((codes "n") ∷ [])) (net.binary net_bin.Add (net.path ((codes "n") ∷ [])) (net.lit (net.integer
              (pos 1) false)))) ∷ []);
          close = close.EndSub;
        })) ∷
        (net.proc (record {
          head = (net.sub net_visible.Public (codes "Main") ([]));
          prologue = (
              (net.local (record { name = (codes "o"); ty = (net_types.named ((codes "Node") ∷ [])); value = None })) ∷ []);
          lines =
              (
              (net.assign (net.path ((codes "o") ∷ [])) (net.new_object (net_types.named ((codes "Node") ∷ [])) net.no_exps)) ∷
              (net.assign (net.path ((codes "o") ∷ (codes "k") ∷ [])) (net.lit (net.integer (pos 5) false))) ∷
              (net.call (net.path ((codes "UpgradeSupport") ∷ (codes "PrintLine") ∷ [])) (net.next_exp (net.call_of (net.path ((codes
              "UpgradeSupport") ∷ (codes "PrintNum") ∷ [])) (net.next_exp (net.cast cast.CDec (net.call_of (net.path ((codes "Peek")
              ∷ [])) (net.next_exp (net.paren (net.path ((codes "o") ∷ (codes "k") ∷ []))) (net.next_exp (net.call_of (net.path ((codes
              "Bump") ∷ [])) (net.next_exp (net.path ((codes "o") ∷ [])) net.no_exps)) net.no_exps)))) net.no_exps)) net.no_exps)) ∷
              (net.call (net.path ((codes "Inc") ∷ [])) (net.next_exp (net.paren (net.path ((codes "o") ∷ (codes "k") ∷ []))) net.no_exps))
              ∷
              (net.call (net.path ((codes "UpgradeSupport") ∷ (codes "PrintLine") ∷ [])) (net.next_exp (net.call_of (net.path ((codes
              "UpgradeSupport") ∷ (codes "PrintNum") ∷ [])) (net.next_exp (net.cast cast.CDec (net.path ((codes "o") ∷ (codes "k") ∷
              []))) net.no_exps)) net.no_exps)) ∷ []);
          close = close.EndSub;
        })) ∷ []);
  }) ∷ (record {
    name = (codes "Node");
    class =
        true;
    members = (
        (net.variable net_visible.Public (record { name = (codes "k"); ty = net_types.integer; value = None })) ∷ []);
  }) ∷ []);
  support = (record {
    name = (codes "UpgradeSupport");
    class = false;
    members = (
        (net.proc (record {
          head = (net.sub net_visible.Public (codes "PrintLine") ((record {
            passing = net_passing.Value;
            name
                = (codes "s");
            ty = net_types.str;
          }) ∷ []));
          prologue = ([]);
          lines = (
              (net.call (net.path ((codes "System") ∷ (codes "Console") ∷ (codes "WriteLine") ∷ [])) (net.next_exp (net.path ((codes
              "s") ∷ [])) net.no_exps)) ∷ []);
          close = close.EndSub;
        })) ∷
        (net.proc (record {
          head = (net.function net_visible.Public (codes "CurText") ((record {
            passing = net_passing.Value;
            name = (codes "d");
            ty = net_types.decimal;
          }) ∷ []) net_types.str);
          prologue = ([]);
          lines = (
              (net.assign (net.path ((codes "CurText") ∷ [])) (net.call_of (net.path ((codes "d") ∷ (codes "ToString") ∷ [])) (net.next_exp
              (net.lit (net.str (codes "0.####"))) (net.next_exp (net.path ((codes "System") ∷ (codes "Globalization") ∷ (codes "CultureInfo")
              ∷ (codes "InvariantCulture") ∷ [])) net.no_exps)))) ∷ []);
          close = close.EndFunction;
        })) ∷
        (net.proc (record {
          head = (net.function net_visible.Public (codes "PrintNum") ((record {
            passing = net_passing.Value;
            name = (codes "d");
            ty = net_types.decimal;
          }) ∷ []) net_types.str);
          prologue = ([]);
          lines = (
              (net.if_head (net.binary net_bin.Less (net.path ((codes "d") ∷ [])) (net.lit (net.decimal (pos 0))))) ∷
              (net.assign (net.path ((codes "PrintNum") ∷ [])) (net.binary net_bin.Concat (net.call_of (net.path ((codes "CurText")
              ∷ [])) (net.next_exp (net.path ((codes "d") ∷ [])) net.no_exps)) (net.lit (net.str (codes " "))))) ∷
              net.else_line ∷
              (net.assign (net.path ((codes "PrintNum") ∷ [])) (net.binary net_bin.Concat (net.binary net_bin.Concat (net.lit (net.str
              (codes " "))) (net.call_of (net.path ((codes "CurText") ∷ [])) (net.next_exp (net.path ((codes "d") ∷ [])) net.no_exps)))
              (net.lit (net.str (codes " "))))) ∷
              net.end_if ∷ []);
          close = close.EndFunction;
        })) ∷ []);
  });
})

abbrev pub runnable : Runnable
runnable = runnable_of program quiet lows

said : ran runnable 3 2000 ≡ (
  line (codes " 506 ")
      ++ line (codes " 6 "),
  ended,
)
unfolding digits
said = refl
