-- The program objects-me-and-as-new-fields, what it puts out and how it ends.
use Rattle.std.proofs.Common.{◌≡◌, refl, ◌++◌, List, ℤ, pos, Bool, true, false, [], ◌∷◌, codes, Some, None}
use Rattle.vb_tree.specs.declared.declared.VarId.{VarId}
use Rattle.bound_tree.specs.Tree as bound
use Rattle.net_tree.specs.Tree as net
use Rattle.net_tree.specs.Types as net_types
use Rattle.vb_tree.specs.BoundTree as types
use Rattle.vb_tree.specs.Tree as vb
use Rattle.vb_tree.specs.declared.expression.BinOp.TheVariants as bin
use Rattle.net_tree.specs.declared.expression.CastWord.TheVariants as cast
use Rattle.net_tree.specs.declared.declaration.NetClose.TheVariants as close
use Rattle.vb_tree.specs.declared.declared.ProcKind.TheVariants as kind
use Rattle.vb_tree.specs.declared.token.Literal6.TheVariants as literal
use Rattle.bound_tree.specs.declared.body.Mention.TheVariants as mention
use Rattle.bound_tree.specs.declared.declared.Named.TheVariants as named
use Rattle.net_tree.specs.declared.expression.NetBin.TheVariants as net_bin
use Rattle.net_tree.specs.declared.declaration.NetPassing.TheVariants as net_passing
use Rattle.net_tree.specs.declared.declaration.NetVisibility.TheVariants as net_visible
use Rattle.bound_tree.specs.declared.expression.Origin.TheVariants as origin
use Rattle.vb_tree.specs.declared.declared.Owner.TheVariants as owner
use Rattle.vb_tree.specs.declared.form_parts.Passing.TheVariants as passing
use Rattle.vb_tree.specs.declared.project.ProjectKind.TheVariants as project_kind
use Rattle.bound_tree.specs.declared.declared.Scope.TheVariants as scope
use Rattle.vb_tree.specs.declared.token.Suffix.TheVariants as suffix
use Rattle.vb_tree.specs.declared.value.Value6.TheVariants as value
use Rattle.vb_tree.specs.declared.form_parts.VarWord.TheVariants as var
use Rattle.vb_tree.specs.declared.form_parts.Visibility.TheVariants as visible
use Rattle.std.specs.Fmt.{digits}
use Rattle.example_runs.proofs.Said.{ended, line, ran, ran_written, runnable_of}
use Rattle.vb6_run.specs.Runnables.{Runnable}

abbrev pub project : vb.Project
project = (record {
  file = (record {
    kind = project_kind.Exe;
    startup = (Some (5, (codes "Sub Main")));
    entries = ((record
        { line = 2; class = false; name = (codes "Main1"); file = (codes "Main1.bas") }) ∷ (record {
          line = 3;
          class = true;
          name
              = (codes "Node");
          file = (codes "Node.cls");
        }) ∷ (record {
          line = 4;
          class = true;
          name = (codes "Leaf");
          file = (codes
              "Leaf.cls");
        }) ∷ []);
    dropped = ([]);
  });
  modules = ((record {
    file = 1;
    name = (codes "Main1");
    class = false;
    members
        = (
        (vb.alone (record {
          place = (record { file = 1; line = 1 });
          text = (codes "Private g As New Node");
          form = (vb.variables
              var.Private ((record {
                name = (codes "g");
                suffix = suffix.Absent;
                bounds = None;
                auto = true;
                ty = (Some (vb.named (codes
                    "Node")));
              }) ∷ []));
        })) ∷
        (vb.proc (record {
          place = (record { file = 1; line = 3 });
          text = (codes "Sub Main()");
          form = (vb.sub_head (record {
            visibility = None;
            name = (codes "Main");
            suffix = suffix.Absent;
            params = ([]);
          }));
        }) (vb.next_node
        (vb.line (record {
          place = (record { file = 1; line = 4 });
          text = (codes "Dim n As Node");
          form = (vb.variables var.Dim
              ((record {
                name = (codes "n");
                suffix = suffix.Absent;
                bounds = None;
                auto = false;
                ty = (Some (vb.named (codes "Node")));
              }) ∷ []));
        })) (vb.next_node
        (vb.line (record {
          place = (record { file = 1; line = 5 });
          text = (codes "Set n = New Node");
          form = (vb.set (vb.word
              (codes "n") suffix.Absent) (vb.new_object (codes "Node")));
        })) (vb.next_node
        (vb.line (record {
          place = (record { file = 1; line = 6 });
          text = (codes "n.Child2.k = 4");
          form = (vb.assign (vb.member
              (vb.member (vb.word (codes "n") suffix.Absent) (codes "Child2")) (codes "k")) (vb.lit (literal.Int (pos 4) false)));
        }))
        (vb.next_node
        (vb.line (record {
          place = (record { file = 1; line = 7 });
          text = (codes "g.k = 5");
          form = (vb.assign (vb.member (vb.word
              (codes "g") suffix.Absent) (codes "k")) (vb.lit (literal.Int (pos 5) false)));
        })) (vb.next_node
        (vb.line (record {
          place = (record { file = 1; line = 8 });
          text = (codes "Set n.Holder = g");
          form = (vb.set (vb.member
              (vb.word (codes "n") suffix.Absent) (codes "Holder")) (vb.word (codes "g") suffix.Absent));
        })) (vb.next_node
        (vb.line (record {
          place = (record { file = 1; line = 9 });
          text = (codes "Debug.Print n.Child2.k; n.Holder.k; n.IsMe(n); n.IsMe(g); g.Take(n)");
          form = (vb.debug_print ((vb.member (vb.member (vb.word (codes "n") suffix.Absent) (codes "Child2")) (codes "k")) ∷ (vb.member
              (vb.member (vb.word (codes "n") suffix.Absent) (codes "Holder")) (codes "k")) ∷ (vb.index (vb.member (vb.word (codes "n")
              suffix.Absent) (codes "IsMe")) (vb.next_arg None false (vb.given (vb.word (codes "n") suffix.Absent)) vb.no_args)) ∷ (vb.index
              (vb.member (vb.word (codes "n") suffix.Absent) (codes "IsMe")) (vb.next_arg None false (vb.given (vb.word (codes "g")
              suffix.Absent)) vb.no_args)) ∷ (vb.index (vb.member (vb.word (codes "g") suffix.Absent) (codes "Take")) (vb.next_arg None
              false (vb.given (vb.word (codes "n") suffix.Absent)) vb.no_args)) ∷ []) false);
        })) (vb.next_node
        (vb.line (record {
          place = (record { file = 1; line = 10 });
          text = (codes "n.Child2.Set1 6");
          form = (vb.invoke (vb.member
              (vb.member (vb.word (codes "n") suffix.Absent) (codes "Child2")) (codes "Set1")) (vb.next_arg None false (vb.given (vb.lit
              (literal.Int (pos 6) false))) vb.no_args));
        })) (vb.next_node
        (vb.line (record {
          place = (record { file = 1; line = 11 });
          text = (codes "Set n.Child2 = Nothing");
          form = (vb.set
              (vb.member (vb.word (codes "n") suffix.Absent) (codes "Child2")) (vb.word (codes "Nothing") suffix.Absent));
        })) (vb.next_node
        (vb.line (record {
          place = (record { file = 1; line = 12 });
          text = (codes "Debug.Print n.Child2.k; n.Holder Is g");
          form = (vb.debug_print ((vb.member (vb.member (vb.word (codes "n") suffix.Absent) (codes "Child2")) (codes "k")) ∷ (vb.binary
              bin.Is (vb.member (vb.word (codes "n") suffix.Absent) (codes "Holder")) (vb.word (codes "g") suffix.Absent)) ∷ []) false);
        })) (vb.next_node
        (vb.line (record {
          place = (record { file = 1; line = 13 });
          text = (codes "Main1.g.k = 8");
          form = (vb.assign (vb.member
              (vb.member (vb.word (codes "Main1") suffix.Absent) (codes "g")) (codes "k")) (vb.lit (literal.Int (pos 8) false)));
        }))
        (vb.next_node
        (vb.line (record {
          place = (record { file = 1; line = 14 });
          text = (codes "Debug.Print g.k");
          form = (vb.debug_print
              ((vb.member (vb.word (codes "g") suffix.Absent) (codes "k")) ∷ []) false);
        })) vb.no_nodes))))))))))) (record {
          place =
              (record { file = 1; line = 15 });
          text = (codes "End Sub");
          form = vb.end_sub;
        })) ∷ []);
    comments = ([]);
  }) ∷ (record {
    file = 2;
    name = (codes "Node");
    class = true;
    members = (
        (vb.alone (record {
          place = (record { file = 2; line = 4 });
          text = (codes "Public k As Long");
          form = (vb.variables var.Public
              ((record {
                name = (codes "k");
                suffix = suffix.Absent;
                bounds = None;
                auto = false;
                ty = (Some (vb.named (codes "Long")));
              }) ∷ []));
        })) ∷
        (vb.alone (record {
          place = (record { file = 2; line = 5 });
          text = (codes "Public Child2 As New Leaf");
          form = (vb.variables
              var.Public ((record {
                name = (codes "Child2");
                suffix = suffix.Absent;
                bounds = None;
                auto = true;
                ty = (Some (vb.named
                    (codes "Leaf")));
              }) ∷ []));
        })) ∷
        (vb.alone (record {
          place = (record { file = 2; line = 6 });
          text = (codes "Public Holder As Node");
          form = (vb.variables
              var.Public ((record {
                name = (codes "Holder");
                suffix = suffix.Absent;
                bounds = None;
                auto = false;
                ty = (Some (vb.named
                    (codes "Node")));
              }) ∷ []));
        })) ∷
        (vb.proc (record {
          place = (record { file = 2; line = 8 });
          text = (codes "Public Function IsMe(ByVal o As Object) As Boolean");
          form = (vb.function_head (record {
            visibility = (Some visible.Public);
            name = (codes "IsMe");
            suffix = suffix.Absent;
            params = ((record {
              optional = false;
              passing = passing.Value;
              param_array = false;
              name = (codes "o");
              suffix = suffix.Absent;
              array = false;
              ty = (Some (vb.named (codes "Object")));
              preset = None;
            }) ∷ []);
          }) (Some (record {
            ty = (vb.named (codes
                "Boolean"));
            array = false;
          })));
        }) (vb.next_node
        (vb.line (record {
          place = (record { file = 2; line = 9 });
          text = (codes "IsMe = o Is Me");
          form = (vb.assign (vb.word
              (codes "IsMe") suffix.Absent) (vb.binary bin.Is (vb.word (codes "o") suffix.Absent) vb.me));
        })) vb.no_nodes) (record {
          place = (record { file = 2; line = 10 });
          text = (codes "End Function");
          form = vb.end_function;
        })) ∷
        (vb.proc (record {
          place = (record { file = 2; line = 12 });
          text = (codes "Public Function Take(ByVal o As Node) As Long");
          form = (vb.function_head (record {
            visibility = (Some visible.Public);
            name = (codes "Take");
            suffix = suffix.Absent;
            params = ((record {
              optional = false;
              passing = passing.Value;
              param_array = false;
              name = (codes "o");
              suffix = suffix.Absent;
              array = false;
              ty = (Some (vb.named (codes "Node")));
              preset = None;
            }) ∷ []);
          }) (Some (record {
            ty = (vb.named (codes
                "Long"));
            array = false;
          })));
        }) (vb.next_node
        (vb.line (record {
          place = (record { file = 2; line = 13 });
          text = (codes "o.k = k + 1");
          form = (vb.assign (vb.member
              (vb.word (codes "o") suffix.Absent) (codes "k")) (vb.binary bin.Add (vb.word (codes "k") suffix.Absent) (vb.lit (literal.Int
              (pos 1) false))));
        })) (vb.next_node
        (vb.line (record {
          place = (record { file = 2; line = 14 });
          text = (codes "Take = o.k + Me.k");
          form = (vb.assign (vb.word
              (codes "Take") suffix.Absent) (vb.binary bin.Add (vb.member (vb.word (codes "o") suffix.Absent) (codes "k")) (vb.member
              vb.me (codes "k"))));
        })) vb.no_nodes)) (record {
          place = (record { file = 2; line = 15 });
          text = (codes "End Function");
          form = vb.end_function;
        })) ∷ []);
    comments = ([]);
  }) ∷ (record {
    file = 3;
    name = (codes "Leaf");
    class = true;
    members
        = (
        (vb.alone (record {
          place = (record { file = 3; line = 4 });
          text = (codes "Public k As Long");
          form = (vb.variables var.Public
              ((record {
                name = (codes "k");
                suffix = suffix.Absent;
                bounds = None;
                auto = false;
                ty = (Some (vb.named (codes "Long")));
              }) ∷ []));
        })) ∷
        (vb.proc (record {
          place = (record { file = 3; line = 6 });
          text = (codes "Public Sub Set1(ByVal n As Long)");
          form =
              (vb.sub_head (record {
                visibility = (Some visible.Public);
                name = (codes "Set1");
                suffix = suffix.Absent;
                params = ((record {
                  optional = false;
                  passing = passing.Value;
                  param_array = false;
                  name = (codes "n");
                  suffix = suffix.Absent;
                  array =
                      false;
                  ty = (Some (vb.named (codes "Long")));
                  preset = None;
                }) ∷ []);
              }));
        }) (vb.next_node
        (vb.line (record {
          place = (record { file = 3; line = 7 });
          text = (codes "k = n");
          form = (vb.assign (vb.word (codes
              "k") suffix.Absent) (vb.word (codes "n") suffix.Absent));
        })) vb.no_nodes) (record {
          place = (record {
            file = 3;
            line =
                8;
          });
          text = (codes "End Sub");
          form = vb.end_sub;
        })) ∷ []);
    comments = ([]);
  }) ∷ []);
})

abbrev pub declarations : bound.Declarations
declarations = (record {
  project = project;
  names = (
      (record { name = (codes "g"); scope = (scope.Private 1); named = (named.Var (record { 0 = 0 })) }) ∷
      (record { name = (codes "Main"); scope = (scope.Public 1); named = (named.Proc (record { 0 = 0 })) }) ∷
      (record { name = (codes "n"); scope = (scope.Local (record { 0 = 0 })); named = (named.Var (record { 0 = 1 })) }) ∷
      (record { name = (codes "k"); scope = (scope.Public 2); named = (named.Var (record { 0 = 2 })) }) ∷
      (record { name = (codes "Child2"); scope = (scope.Public 2); named = (named.Var (record { 0 = 3 })) }) ∷
      (record { name = (codes "Holder"); scope = (scope.Public 2); named = (named.Var (record { 0 = 4 })) }) ∷
      (record { name = (codes "IsMe"); scope = (scope.Public 2); named = (named.Proc (record { 0 = 1 })) }) ∷
      (record { name = (codes "o"); scope = (scope.Local (record { 0 = 1 })); named = (named.Var (record { 0 = 5 })) }) ∷
      (record { name = (codes "IsMe"); scope = (scope.Local (record { 0 = 1 })); named = (named.Var (record { 0 = 6 })) }) ∷
      (record { name = (codes "Take"); scope = (scope.Public 2); named = (named.Proc (record { 0 = 2 })) }) ∷
      (record { name = (codes "o"); scope = (scope.Local (record { 0 = 2 })); named = (named.Var (record { 0 = 7 })) }) ∷
      (record { name = (codes "Take"); scope = (scope.Local (record { 0 = 2 })); named = (named.Var (record { 0 = 8 })) }) ∷
      (record { name = (codes "k"); scope = (scope.Public 3); named = (named.Var (record { 0 = 9 })) }) ∷
      (record { name = (codes "Set1"); scope = (scope.Public 3); named = (named.Proc (record { 0 = 3 })) }) ∷
      (record { name = (codes "n"); scope = (scope.Local (record { 0 = 3 })); named = (named.Var (record { 0 = 10 })) }) ∷ []);
  vars = (
      (record {
        name = (codes "g");
        place = (record { file = 1; line = 1 });
        statement = 0;
        owner = (owner.Module 1);
        ty = (types.class
            0);
        named = (types.class 0);
        qualified = false;
        lettered = None;
        bounds = ([]);
        auto = true;
        preset = None;
      }) ∷
      (record {
        name = (codes "n");
        place = (record { file = 1; line = 4 });
        statement = 2;
        owner = (owner.Local (record {
          0
              = 0;
        }));
        ty = (types.class 0);
        named = (types.class 0);
        qualified = false;
        lettered = None;
        bounds = ([]);
        auto = false;
        preset = None;
      }) ∷
      (record {
        name = (codes "k");
        place = (record { file = 2; line = 4 });
        statement = 0;
        owner = (owner.Module 2);
        ty = types.long;
        named = types.long;
        qualified = false;
        lettered = None;
        bounds = ([]);
        auto = false;
        preset = None;
      }) ∷
      (record {
        name = (codes "Child2");
        place = (record { file = 2; line = 5 });
        statement = 1;
        owner = (owner.Module 2);
        ty
            = (types.class 1);
        named = (types.class 1);
        qualified = false;
        lettered = None;
        bounds = ([]);
        auto = true;
        preset = None;
      }) ∷
      (record {
        name = (codes "Holder");
        place = (record { file = 2; line = 6 });
        statement = 2;
        owner = (owner.Module 2);
        ty
            = (types.class 0);
        named = (types.class 0);
        qualified = false;
        lettered = None;
        bounds = ([]);
        auto = false;
        preset =
            None;
      }) ∷
      (record {
        name = (codes "o");
        place = (record { file = 2; line = 8 });
        statement = 3;
        owner = (owner.Value (record {
          0
              = 1;
        }));
        ty = types.object;
        named = types.object;
        qualified = false;
        lettered = None;
        bounds = ([]);
        auto = false;
        preset
            = None;
      }) ∷
      (record {
        name = (codes "IsMe");
        place = (record { file = 2; line = 8 });
        statement = 3;
        owner = (owner.Answer (record
            { 0 = 1 }));
        ty = types.boolean;
        named = types.boolean;
        qualified = false;
        lettered = None;
        bounds = ([]);
        auto = false;
        preset = None;
      }) ∷
      (record {
        name = (codes "o");
        place = (record { file = 2; line = 12 });
        statement = 6;
        owner = (owner.Value (record {
          0 = 2;
        }));
        ty = (types.class 0);
        named = (types.class 0);
        qualified = false;
        lettered = None;
        bounds = ([]);
        auto = false;
        preset = None;
      }) ∷
      (record {
        name = (codes "Take");
        place = (record { file = 2; line = 12 });
        statement = 6;
        owner = (owner.Answer (record
            { 0 = 2 }));
        ty = types.long;
        named = types.long;
        qualified = false;
        lettered = None;
        bounds = ([]);
        auto = false;
        preset
            = None;
      }) ∷
      (record {
        name = (codes "k");
        place = (record { file = 3; line = 4 });
        statement = 0;
        owner = (owner.Module 3);
        ty = types.long;
        named = types.long;
        qualified = false;
        lettered = None;
        bounds = ([]);
        auto = false;
        preset = None;
      }) ∷
      (record {
        name = (codes "n");
        place = (record { file = 3; line = 6 });
        statement = 1;
        owner = (owner.Value (record {
          0
              = 3;
        }));
        ty = types.long;
        named = types.long;
        qualified = false;
        lettered = None;
        bounds = ([]);
        auto = false;
        preset
            = None;
      }) ∷ []);
  consts = ([]);
  procs = (
      (record {
        name = (codes "Main");
        place = (record { file = 1; line = 3 });
        module_number = 1;
        kind = kind.Sub;
        visibility
            = visible.Public;
        params = ([]);
        result = types.nothing;
        answer = None;
        first = (record { 0 = 0 });
      }) ∷
      (record {
        name = (codes "IsMe");
        place = (record { file = 2; line = 8 });
        module_number = 2;
        kind = kind.Function;
        visibility
            = visible.Public;
        params = ((record { 0 = 5 }) ∷ []);
        result = types.boolean;
        answer = (Some (record { 0 = 6 }));
        first
            = (record { 0 = 1 });
      }) ∷
      (record {
        name = (codes "Take");
        place = (record { file = 2; line = 12 });
        module_number = 2;
        kind = kind.Function;
        visibility
            = visible.Public;
        params = ((record { 0 = 7 }) ∷ []);
        result = types.long;
        answer = (Some (record { 0 = 8 }));
        first =
            (record { 0 = 2 });
      }) ∷
      (record {
        name = (codes "Set1");
        place = (record { file = 3; line = 6 });
        module_number = 3;
        kind = kind.Sub;
        visibility
            = visible.Public;
        params = ((record { 0 = 10 }) ∷ []);
        result = types.nothing;
        answer = None;
        first = (record {
          0 = 3;
        });
      }) ∷ []);
  types = ([]);
  enums = ([]);
  defaults = (None ∷ None ∷ []);
})

abbrev pub body_0 : List bound.Line
body_0 = (
    (record {
      source = (record {
        place = (record { file = 1; line = 5 });
        text = (codes "Set n = New Node");
        form = (vb.set
            (vb.word (codes "n") suffix.Absent) (vb.new_object (codes "Node")));
      });
      bindings = (record {
        exprs = ((bound.typed (types.class
            0) (bound.variable (record { 0 = 1 }) false)) ∷ (bound.typed (types.class 0) (bound.new_object (record { 0 = 0 }))) ∷
            []);
        rules = (record { bits = 0 });
        mentions = ((mention.Var (record { 0 = 1 })) ∷ (mention.Class (record { 0 = 0 }))
            ∷ []);
      });
    }) ∷
    (record {
      source = (record {
        place = (record { file = 1; line = 6 });
        text = (codes "n.Child2.k = 4");
        form = (vb.assign
            (vb.member (vb.member (vb.word (codes "n") suffix.Absent) (codes "Child2")) (codes "k")) (vb.lit (literal.Int (pos 4)
            false)));
      });
      bindings = (record {
        exprs = ((bound.typed types.long (bound.field (bound.typed (types.class 1) (bound.field
            (bound.typed (types.class 0) (bound.variable (record { 0 = 1 }) false)) 1)) 0)) ∷ (bound.typed types.long (bound.convert
            types.long (bound.typed types.integer (bound.constant (value.Int (pos 4)) origin.Literal)))) ∷ []);
        rules = (record {
          bits = 0;
        });
        mentions = ((mention.Var (record { 0 = 9 })) ∷ (mention.Var (record { 0 = 3 })) ∷ (mention.Var (record {
          0 = 1;
        })) ∷ []);
      });
    }) ∷
    (record {
      source = (record {
        place = (record { file = 1; line = 7 });
        text = (codes "g.k = 5");
        form = (vb.assign (vb.member
            (vb.word (codes "g") suffix.Absent) (codes "k")) (vb.lit (literal.Int (pos 5) false)));
      });
      bindings = (record {
        exprs
            = ((bound.typed types.long (bound.field (bound.typed (types.class 0) (bound.variable (record { 0 = 0 }) false)) 0)) ∷
            (bound.typed types.long (bound.convert types.long (bound.typed types.integer (bound.constant (value.Int (pos 5)) origin.Literal))))
            ∷ []);
        rules = (record { bits = 0 });
        mentions = ((mention.Var (record { 0 = 2 })) ∷ (mention.Var (record { 0 = 0 }))
            ∷ []);
      });
    }) ∷
    (record {
      source = (record {
        place = (record { file = 1; line = 8 });
        text = (codes "Set n.Holder = g");
        form = (vb.set
            (vb.member (vb.word (codes "n") suffix.Absent) (codes "Holder")) (vb.word (codes "g") suffix.Absent));
      });
      bindings = (record {
        exprs = ((bound.typed (types.class 0) (bound.field (bound.typed (types.class 0) (bound.variable (record { 0 = 1 }) false))
            2)) ∷ (bound.typed (types.class 0) (bound.variable (record { 0 = 0 }) false)) ∷ []);
        rules = (record { bits = 0 });
        mentions
            = ((mention.Var (record { 0 = 4 })) ∷ (mention.Var (record { 0 = 1 })) ∷ (mention.Var (record { 0 = 0 })) ∷ []);
      });
    })
    ∷
    (record {
      source = (record {
        place = (record { file = 1; line = 9 });
        text = (codes "Debug.Print n.Child2.k; n.Holder.k; n.IsMe(n); n.IsMe(g); g.Take(n)");
        form = (vb.debug_print ((vb.member (vb.member (vb.word (codes "n") suffix.Absent) (codes "Child2")) (codes "k")) ∷ (vb.member
            (vb.member (vb.word (codes "n") suffix.Absent) (codes "Holder")) (codes "k")) ∷ (vb.index (vb.member (vb.word (codes "n")
            suffix.Absent) (codes "IsMe")) (vb.next_arg None false (vb.given (vb.word (codes "n") suffix.Absent)) vb.no_args)) ∷ (vb.index
            (vb.member (vb.word (codes "n") suffix.Absent) (codes "IsMe")) (vb.next_arg None false (vb.given (vb.word (codes "g")
            suffix.Absent)) vb.no_args)) ∷ (vb.index (vb.member (vb.word (codes "g") suffix.Absent) (codes "Take")) (vb.next_arg None
            false (vb.given (vb.word (codes "n") suffix.Absent)) vb.no_args)) ∷ []) false);
      });
      bindings = (record {
        exprs = ((bound.typed
            types.long (bound.field (bound.typed (types.class 1) (bound.field (bound.typed (types.class 0) (bound.variable (record
            { 0 = 1 }) false)) 1)) 0)) ∷ (bound.typed types.long (bound.field (bound.typed (types.class 0) (bound.field (bound.typed
            (types.class 0) (bound.variable (record { 0 = 1 }) false)) 2)) 0)) ∷ (bound.typed types.boolean (bound.call (record {
              0 = 1;
            }) false (bound.of_object (bound.typed (types.class 0) (bound.variable (record { 0 = 1 }) false))) (bound.next_passed
            (bound.by_value (bound.typed types.object (bound.convert types.object (bound.typed (types.class 0) (bound.variable (record
            { 0 = 1 }) false))))) bound.no_passed))) ∷ (bound.typed types.boolean (bound.call (record { 0 = 1 }) false (bound.of_object
            (bound.typed (types.class 0) (bound.variable (record { 0 = 1 }) false))) (bound.next_passed (bound.by_value (bound.typed
            types.object (bound.convert types.object (bound.typed (types.class 0) (bound.variable (record { 0 = 0 }) false))))) bound.no_passed)))
            ∷ (bound.typed types.long (bound.call (record { 0 = 2 }) false (bound.of_object (bound.typed (types.class 0) (bound.variable
            (record { 0 = 0 }) false))) (bound.next_passed (bound.by_value (bound.typed (types.class 0) (bound.variable (record {
              0 = 1;
            }) false))) bound.no_passed))) ∷ []);
        rules = (record { bits = 0 });
        mentions = ((mention.Var (record { 0 = 9 }))
            ∷ (mention.Var (record { 0 = 3 })) ∷ (mention.Var (record { 0 = 1 })) ∷ (mention.Var (record { 0 = 2 })) ∷ (mention.Var
            (record { 0 = 4 })) ∷ (mention.Var (record { 0 = 1 })) ∷ (mention.Proc (record { 0 = 1 })) ∷ (mention.Var (record {
              0
                  = 1;
            })) ∷ (mention.Var (record { 0 = 1 })) ∷ (mention.Proc (record { 0 = 1 })) ∷ (mention.Var (record { 0 = 1 })) ∷ (mention.Var
            (record { 0 = 0 })) ∷ (mention.Proc (record { 0 = 2 })) ∷ (mention.Var (record { 0 = 0 })) ∷ (mention.Var (record {
              0
                  = 1;
            })) ∷ []);
      });
    }) ∷
    (record {
      source = (record {
        place = (record { file = 1; line = 10 });
        text = (codes "n.Child2.Set1 6");
        form = (vb.invoke
            (vb.member (vb.member (vb.word (codes "n") suffix.Absent) (codes "Child2")) (codes "Set1")) (vb.next_arg None false (vb.given
            (vb.lit (literal.Int (pos 6) false))) vb.no_args));
      });
      bindings = (record {
        exprs = ((bound.typed types.nothing (bound.call
            (record { 0 = 3 }) false (bound.of_object (bound.typed (types.class 1) (bound.field (bound.typed (types.class 0) (bound.variable
            (record { 0 = 1 }) false)) 1))) (bound.next_passed (bound.by_value (bound.typed types.long (bound.convert types.long (bound.typed
            types.integer (bound.constant (value.Int (pos 6)) origin.Literal))))) bound.no_passed))) ∷ []);
        rules = (record {
          bits
              = 0;
        });
        mentions = ((mention.Proc (record { 0 = 3 })) ∷ (mention.Var (record { 0 = 3 })) ∷ (mention.Var (record {
          0 =
              1;
        })) ∷ []);
      });
    }) ∷
    (record {
      source = (record {
        place = (record { file = 1; line = 11 });
        text = (codes "Set n.Child2 = Nothing");
        form =
            (vb.set (vb.member (vb.word (codes "n") suffix.Absent) (codes "Child2")) (vb.word (codes "Nothing") suffix.Absent));
      });
      bindings = (record {
        exprs = ((bound.typed (types.class 1) (bound.field (bound.typed (types.class 0) (bound.variable (record
            { 0 = 1 }) false)) 1)) ∷ (bound.typed (types.class 1) (bound.convert (types.class 1) (bound.typed types.nothing (bound.constant
            value.Nothing origin.Literal)))) ∷ []);
        rules = (record { bits = 0 });
        mentions = ((mention.Var (record { 0 = 3 })) ∷
            (mention.Var (record { 0 = 1 })) ∷ []);
      });
    }) ∷
    (record {
      source = (record {
        place = (record { file = 1; line = 12 });
        text = (codes "Debug.Print n.Child2.k; n.Holder Is g");
        form = (vb.debug_print ((vb.member (vb.member (vb.word (codes "n") suffix.Absent) (codes "Child2")) (codes "k")) ∷ (vb.binary
            bin.Is (vb.member (vb.word (codes "n") suffix.Absent) (codes "Holder")) (vb.word (codes "g") suffix.Absent)) ∷ []) false);
      });
      bindings = (record {
        exprs = ((bound.typed types.long (bound.field (bound.typed (types.class 1) (bound.field (bound.typed
            (types.class 0) (bound.variable (record { 0 = 1 }) false)) 1)) 0)) ∷ (bound.typed types.boolean (bound.is_same (bound.typed
            (types.class 0) (bound.field (bound.typed (types.class 0) (bound.variable (record { 0 = 1 }) false)) 2)) (bound.typed
            (types.class 0) (bound.variable (record { 0 = 0 }) false)))) ∷ []);
        rules = (record { bits = 0 });
        mentions = ((mention.Var
            (record { 0 = 9 })) ∷ (mention.Var (record { 0 = 3 })) ∷ (mention.Var (record { 0 = 1 })) ∷ (mention.Var (record {
              0 =
                  4;
            })) ∷ (mention.Var (record { 0 = 1 })) ∷ (mention.Var (record { 0 = 0 })) ∷ []);
      });
    }) ∷
    (record {
      source = (record {
        place = (record { file = 1; line = 13 });
        text = (codes "Main1.g.k = 8");
        form = (vb.assign
            (vb.member (vb.member (vb.word (codes "Main1") suffix.Absent) (codes "g")) (codes "k")) (vb.lit (literal.Int (pos 8) false)));
      });
      bindings = (record {
        exprs = ((bound.typed types.long (bound.field (bound.typed (types.class 0) (bound.variable (record
            { 0 = 0 }) true)) 0)) ∷ (bound.typed types.long (bound.convert types.long (bound.typed types.integer (bound.constant (value.Int
            (pos 8)) origin.Literal)))) ∷ []);
        rules = (record { bits = 0 });
        mentions = ((mention.Var (record { 0 = 2 })) ∷ (mention.Var
            (record { 0 = 0 })) ∷ []);
      });
    }) ∷
    (record {
      source = (record {
        place = (record { file = 1; line = 14 });
        text = (codes "Debug.Print g.k");
        form = (vb.debug_print
            ((vb.member (vb.word (codes "g") suffix.Absent) (codes "k")) ∷ []) false);
      });
      bindings = (record {
        exprs = ((bound.typed
            types.long (bound.field (bound.typed (types.class 0) (bound.variable (record { 0 = 0 }) false)) 0)) ∷ []);
        rules = (record
            { bits = 0 });
        mentions = ((mention.Var (record { 0 = 2 })) ∷ (mention.Var (record { 0 = 0 })) ∷ []);
      });
    }) ∷ [])

abbrev pub body_1 : List bound.Line
body_1 = (
    (record {
      source = (record {
        place = (record { file = 2; line = 9 });
        text = (codes "IsMe = o Is Me");
        form = (vb.assign
            (vb.word (codes "IsMe") suffix.Absent) (vb.binary bin.Is (vb.word (codes "o") suffix.Absent) vb.me));
      });
      bindings = (record {
        exprs = ((bound.typed types.boolean (bound.variable (record { 0 = 6 }) false)) ∷ (bound.typed types.boolean (bound.is_same
            (bound.typed types.object (bound.variable (record { 0 = 5 }) false)) (bound.typed (types.class 0) bound.me))) ∷ []);
        rules
            = (record { bits = 0 });
        mentions = ((mention.Var (record { 0 = 6 })) ∷ (mention.Var (record { 0 = 5 })) ∷ []);
      });
    }) ∷
    [])

abbrev pub body_2 : List bound.Line
body_2 = (
    (record {
      source = (record {
        place = (record { file = 2; line = 13 });
        text = (codes "o.k = k + 1");
        form = (vb.assign
            (vb.member (vb.word (codes "o") suffix.Absent) (codes "k")) (vb.binary bin.Add (vb.word (codes "k") suffix.Absent) (vb.lit
            (literal.Int (pos 1) false))));
      });
      bindings = (record {
        exprs = ((bound.typed types.long (bound.field (bound.typed (types.class
            0) (bound.variable (record { 0 = 7 }) false)) 0)) ∷ (bound.typed types.long (bound.binary bin.Add (bound.typed types.long
            (bound.variable (record { 0 = 2 }) false)) (bound.typed types.long (bound.convert types.long (bound.typed types.integer
            (bound.constant (value.Int (pos 1)) origin.Literal)))))) ∷ []);
        rules = (record { bits = 0 });
        mentions = ((mention.Var
            (record { 0 = 2 })) ∷ (mention.Var (record { 0 = 7 })) ∷ (mention.Var (record { 0 = 2 })) ∷ []);
      });
    }) ∷
    (record {
      source = (record {
        place = (record { file = 2; line = 14 });
        text = (codes "Take = o.k + Me.k");
        form = (vb.assign
            (vb.word (codes "Take") suffix.Absent) (vb.binary bin.Add (vb.member (vb.word (codes "o") suffix.Absent) (codes "k"))
            (vb.member vb.me (codes "k"))));
      });
      bindings = (record {
        exprs = ((bound.typed types.long (bound.variable (record {
          0
              = 8;
        }) false)) ∷ (bound.typed types.long (bound.binary bin.Add (bound.typed types.long (bound.field (bound.typed (types.class
            0) (bound.variable (record { 0 = 7 }) false)) 0)) (bound.typed types.long (bound.field (bound.typed (types.class 0) bound.me)
            0)))) ∷ []);
        rules = (record { bits = 0 });
        mentions = ((mention.Var (record { 0 = 8 })) ∷ (mention.Var (record {
          0 =
              2;
        })) ∷ (mention.Var (record { 0 = 7 })) ∷ (mention.Var (record { 0 = 2 })) ∷ []);
      });
    }) ∷ [])

abbrev pub body_3 : List bound.Line
body_3 = (
    (record {
      source = (record {
        place = (record { file = 3; line = 7 });
        text = (codes "k = n");
        form = (vb.assign (vb.word
            (codes "k") suffix.Absent) (vb.word (codes "n") suffix.Absent));
      });
      bindings = (record {
        exprs = ((bound.typed types.long
            (bound.variable (record { 0 = 9 }) false)) ∷ (bound.typed types.long (bound.variable (record { 0 = 10 }) false)) ∷ []);
        rules = (record { bits = 0 });
        mentions = ((mention.Var (record { 0 = 9 })) ∷ (mention.Var (record { 0 = 10 })) ∷ []);
      });
    }) ∷ [])

abbrev pub bodies : List (List bound.Line)
bodies = body_0 ∷ body_1 ∷ body_2 ∷ body_3 ∷ []

abbrev pub program : bound.Program
program = record { declarations = declarations; bodies = bodies }

abbrev pub quiet : List (List Bool)
quiet = (([]) ∷ (false ∷ []) ∷ (false ∷ []) ∷ (false ∷ []) ∷ [])

abbrev pub lows : List (VarId × ℤ × ℤ)
lows = ([])

abbrev pub clean : List Bool
clean = (true ∷ true ∷ true ∷ true ∷ [])

abbrev pub written : net.Project
written = (record {
  library = false;
  main = (Some (codes "Main1"));
  note = None;
  modules = ((record {
    name = (codes "Main1");
    class = false;
    members = (
        (net.variable net_visible.Private (record {
          name = (codes "g");
          ty = (net_types.named ((codes "Node") ∷ []));
          value =
              None;
        })) ∷
        (net.proc (record {
          head = (net.sub net_visible.Public (codes "Main") ([]));
          prologue = (
              (net.local (record { name = (codes "n"); ty = (net_types.named ((codes "Node") ∷ [])); value = None })) ∷ []);
          lines =
              (
              (net.assign (net.path ((codes "n") ∷ [])) (net.new_object (net_types.named ((codes "Node") ∷ [])) net.no_exps)) ∷
              (net.assign (net.dot (net.call_of (net.path ((codes "UpgradeSupport") ∷ (codes "Auto_Leaf") ∷ [])) (net.next_exp (net.path
              ((codes "n") ∷ (codes "Child2") ∷ [])) net.no_exps)) (codes "k")) (net.lit (net.integer (pos 4) false))) ∷
              (net.assign (net.dot (net.call_of (net.path ((codes "UpgradeSupport") ∷ (codes "Auto_Node") ∷ [])) (net.next_exp (net.path
              ((codes "g") ∷ [])) net.no_exps)) (codes "k")) (net.lit (net.integer (pos 5) false))) ∷
              (net.assign (net.path ((codes "n") ∷ (codes "Holder") ∷ [])) (net.call_of (net.path ((codes "UpgradeSupport") ∷ (codes
              "Auto_Node") ∷ [])) (net.next_exp (net.path ((codes "g") ∷ [])) net.no_exps))) ∷
              (net.call (net.path ((codes "UpgradeSupport") ∷ (codes "PrintLine") ∷ [])) (net.next_exp (net.binary net_bin.Concat (net.binary
              net_bin.Concat (net.binary net_bin.Concat (net.binary net_bin.Concat (net.call_of (net.path ((codes "UpgradeSupport")
              ∷ (codes "PrintNum") ∷ [])) (net.next_exp (net.cast cast.CDec (net.dot (net.call_of (net.path ((codes "UpgradeSupport")
              ∷ (codes "Auto_Leaf") ∷ [])) (net.next_exp (net.path ((codes "n") ∷ (codes "Child2") ∷ [])) net.no_exps)) (codes "k")))
              net.no_exps)) (net.call_of (net.path ((codes "UpgradeSupport") ∷ (codes "PrintNum") ∷ [])) (net.next_exp (net.cast cast.CDec
              (net.path ((codes "n") ∷ (codes "Holder") ∷ (codes "k") ∷ []))) net.no_exps))) (net.cast cast.CStr (net.call_of (net.path
              ((codes "n") ∷ (codes "IsMe") ∷ [])) (net.next_exp (net.path ((codes "n") ∷ [])) net.no_exps)))) (net.cast cast.CStr (net.call_of
              (net.path ((codes "n") ∷ (codes "IsMe") ∷ [])) (net.next_exp (net.call_of (net.path ((codes "UpgradeSupport") ∷ (codes
              "Auto_Node") ∷ [])) (net.next_exp (net.path ((codes "g") ∷ [])) net.no_exps)) net.no_exps)))) (net.call_of (net.path ((codes
              "UpgradeSupport") ∷ (codes "PrintNum") ∷ [])) (net.next_exp (net.cast cast.CDec (net.call_of (net.dot (net.call_of (net.path
              ((codes "UpgradeSupport") ∷ (codes "Auto_Node") ∷ [])) (net.next_exp (net.path ((codes "g") ∷ [])) net.no_exps)) (codes
              "Take")) (net.next_exp (net.path ((codes "n") ∷ [])) net.no_exps))) net.no_exps))) net.no_exps)) ∷
              (net.call (net.dot (net.call_of (net.path ((codes "UpgradeSupport") ∷ (codes "Auto_Leaf") ∷ [])) (net.next_exp (net.path
              ((codes "n") ∷ (codes "Child2") ∷ [])) net.no_exps)) (codes "Set1")) (net.next_exp (net.lit (net.integer (pos 6) false))
              net.no_exps)) ∷
              (net.assign (net.path ((codes "n") ∷ (codes "Child2") ∷ [])) net.nothing) ∷
              (net.call (net.path ((codes "UpgradeSupport") ∷ (codes "PrintLine") ∷ [])) (net.next_exp (net.binary net_bin.Concat (net.call_of
              (net.path ((codes "UpgradeSupport") ∷ (codes "PrintNum") ∷ [])) (net.next_exp (net.cast cast.CDec (net.dot (net.call_of
              (net.path ((codes "UpgradeSupport") ∷ (codes "Auto_Leaf") ∷ [])) (net.next_exp (net.path ((codes "n") ∷ (codes "Child2")
              ∷ [])) net.no_exps)) (codes "k"))) net.no_exps)) (net.cast cast.CStr (net.binary net_bin.Is (net.path ((codes "n") ∷ (codes
              "Holder") ∷ [])) (net.call_of (net.path ((codes "UpgradeSupport") ∷ (codes "Auto_Node") ∷ [])) (net.next_exp (net.path
              ((codes "g") ∷ [])) net.no_exps))))) net.no_exps)) ∷
              (net.assign (net.dot (net.call_of (net.path ((codes "UpgradeSupport") ∷ (codes "Auto_Node") ∷ [])) (net.next_exp (net.path
              ((codes "Main1") ∷ (codes "g") ∷ [])) net.no_exps)) (codes "k")) (net.lit (net.integer (pos 8) false))) ∷
              (net.call (net.path ((codes "UpgradeSupport") ∷ (codes "PrintLine") ∷ [])) (net.next_exp (net.call_of (net.path ((codes
              "UpgradeSupport") ∷ (codes "PrintNum") ∷ [])) (net.next_exp (net.cast cast.CDec (net.dot (net.call_of (net.path ((codes
              "UpgradeSupport") ∷ (codes "Auto_Node") ∷ [])) (net.next_exp (net.path ((codes "g") ∷ [])) net.no_exps)) (codes "k")))
              net.no_exps)) net.no_exps)) ∷ []);
          close = close.EndSub;
        })) ∷ []);
  }) ∷ (record {
    name = (codes "Node");
    class = true;
    members = (
        (net.variable net_visible.Public (record { name = (codes "k"); ty = net_types.integer; value = None })) ∷
        (net.variable net_visible.Public (record {
          name = (codes "Child2");
          ty = (net_types.named ((codes "Leaf") ∷ []));
          value
              = None;
        })) ∷
        (net.variable net_visible.Public (record {
          name = (codes "Holder");
          ty = (net_types.named ((codes "Node") ∷ []));
          value
              = None;
        })) ∷
        (net.proc (record {
          head = (net.function net_visible.Public (codes "IsMe") ((record {
            passing = net_passing.Value;
            name
                = (codes "o");
            ty = net_types.object;
          }) ∷ []) net_types.boolean);
          prologue = ([]);
          lines = (
              (net.assign (net.path ((codes "IsMe") ∷ [])) (net.binary net_bin.Is (net.path ((codes "o") ∷ [])) net.me)) ∷ []);
          close
              = close.EndFunction;
        })) ∷
        (net.proc (record {
          head = (net.function net_visible.Public (codes "Take") ((record {
            passing = net_passing.Value;
            name
                = (codes "o");
            ty = (net_types.named ((codes "Node") ∷ []));
          }) ∷ []) net_types.integer);
          prologue = ([]);
          lines = (
              (net.assign (net.path ((codes "o") ∷ (codes "k") ∷ [])) (net.binary net_bin.Add (net.path ((codes "k") ∷ [])) (net.lit
              (net.integer (pos 1) false)))) ∷
              (net.assign (net.path ((codes "Take") ∷ [])) (net.binary net_bin.Add (net.path ((codes "o") ∷ (codes "k") ∷ [])) (net.dot
              net.me (codes "k")))) ∷ []);
          close = close.EndFunction;
        })) ∷ []);
  }) ∷ (record {
    name = (codes "Leaf");
    class = true;
    members
        = (
        (net.variable net_visible.Public (record { name = (codes "k"); ty = net_types.integer; value = None })) ∷
        (net.proc (record {
          head = (net.sub net_visible.Public (codes "Set1") ((record {
            passing = net_passing.Value;
            name = (codes
                "n");
            ty = net_types.integer;
          }) ∷ []));
          prologue = ([]);
          lines = (
              (net.assign (net.path ((codes "k") ∷ [])) (net.path ((codes "n") ∷ []))) ∷ []);
          close = close.EndSub;
        })) ∷ []);
  }) ∷ []);
  support = (record {
    name = (codes "UpgradeSupport");
    class = false;
    members = (
        (net.proc (record {
          head = (net.sub net_visible.Public (codes "PrintLine") ((record {
            passing = net_passing.Value;
            name
                = (codes "s");
            ty = net_types.str;
          }) ∷ []));
          prologue = ([]);
          lines = (
              (net.call (net.path ((codes "System") ∷ (codes "Console") ∷ (codes "WriteLine") ∷ [])) (net.next_exp (net.path ((codes
              "s") ∷ [])) net.no_exps)) ∷ []);
          close = close.EndSub;
        })) ∷
        (net.proc (record {
          head = (net.function net_visible.Public (codes "CurText") ((record {
            passing = net_passing.Value;
            name = (codes "d");
            ty = net_types.decimal;
          }) ∷ []) net_types.str);
          prologue = ([]);
          lines = (
              (net.assign (net.path ((codes "CurText") ∷ [])) (net.call_of (net.path ((codes "d") ∷ (codes "ToString") ∷ [])) (net.next_exp
              (net.lit (net.str (codes "0.####"))) (net.next_exp (net.path ((codes "System") ∷ (codes "Globalization") ∷ (codes "CultureInfo")
              ∷ (codes "InvariantCulture") ∷ [])) net.no_exps)))) ∷ []);
          close = close.EndFunction;
        })) ∷
        (net.proc (record {
          head = (net.function net_visible.Public (codes "PrintNum") ((record {
            passing = net_passing.Value;
            name = (codes "d");
            ty = net_types.decimal;
          }) ∷ []) net_types.str);
          prologue = ([]);
          lines = (
              (net.if_head (net.binary net_bin.Less (net.path ((codes "d") ∷ [])) (net.lit (net.decimal (pos 0))))) ∷
              (net.assign (net.path ((codes "PrintNum") ∷ [])) (net.binary net_bin.Concat (net.call_of (net.path ((codes "CurText")
              ∷ [])) (net.next_exp (net.path ((codes "d") ∷ [])) net.no_exps)) (net.lit (net.str (codes " "))))) ∷
              net.else_line ∷
              (net.assign (net.path ((codes "PrintNum") ∷ [])) (net.binary net_bin.Concat (net.binary net_bin.Concat (net.lit (net.str
              (codes " "))) (net.call_of (net.path ((codes "CurText") ∷ [])) (net.next_exp (net.path ((codes "d") ∷ [])) net.no_exps)))
              (net.lit (net.str (codes " "))))) ∷
              net.end_if ∷ []);
          close = close.EndFunction;
        })) ∷
        (net.proc (record {
          head = (net.function net_visible.Public (codes "Auto_Node") ((record {
            passing = net_passing.Reference;
            name = (codes "x");
            ty = (net_types.named ((codes "Node") ∷ []));
          }) ∷ []) (net_types.named ((codes "Node") ∷ [])));
          prologue
              = ([]);
          lines = (
              (net.if_head (net.binary net_bin.Is (net.path ((codes "x") ∷ [])) net.nothing)) ∷
              (net.assign (net.path ((codes "x") ∷ [])) (net.new_object (net_types.named ((codes "Node") ∷ [])) net.no_exps)) ∷
              net.end_if ∷
              (net.assign (net.path ((codes "Auto_Node") ∷ [])) (net.path ((codes "x") ∷ []))) ∷ []);
          close = close.EndFunction;
        }))
        ∷
        (net.proc (record {
          head = (net.function net_visible.Public (codes "Auto_Leaf") ((record {
            passing = net_passing.Reference;
            name = (codes "x");
            ty = (net_types.named ((codes "Leaf") ∷ []));
          }) ∷ []) (net_types.named ((codes "Leaf") ∷ [])));
          prologue
              = ([]);
          lines = (
              (net.if_head (net.binary net_bin.Is (net.path ((codes "x") ∷ [])) net.nothing)) ∷
              (net.assign (net.path ((codes "x") ∷ [])) (net.new_object (net_types.named ((codes "Leaf") ∷ [])) net.no_exps)) ∷
              net.end_if ∷
              (net.assign (net.path ((codes "Auto_Leaf") ∷ [])) (net.path ((codes "x") ∷ []))) ∷ []);
          close = close.EndFunction;
        }))
        ∷ []);
  });
})

abbrev pub runnable : Runnable
runnable = runnable_of program quiet lows

said : ran runnable 0 2000 ≡ (
  line (codes " 4  5 TrueFalse 11 ")
      ++ line (codes " 0 True")
      ++ line (codes " 8 "),
  ended,
)
unfolding digits
said = refl

said_written : ran_written written 0 2000 ≡ (
  line (codes " 4  5 TrueFalse 11 ")
      ++ line (codes " 0 True")
      ++ line (codes " 8 "),
  ended,
)
unfolding digits
said_written = refl
