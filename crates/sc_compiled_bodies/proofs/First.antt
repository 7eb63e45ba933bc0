-- The memory of a world as a run begins has nothing in it, so all that is asked of it holds; and where there is no stub no call crosses.
use Rattle.std.proofs.Common.{◌≡◌, ℕ, zero, suc, ◌+◌, ◌^◌, ◌≤◌, true, List, [], ◌∷◌, replicate, None, Some, refl, sym, ap, subst, ◌∙◌, arith}
use Rattle.std.specs.Prelude.{Contains, length, map, slice_index, slice_index_or}
use Rattle.sc_base.specs.declared.key.Key.{Key}
use Rattle.sc_base.specs.declared.memory.Cell.{Cell as Stored}
use Rattle.sc_base.specs.declared.memory.Cell.TheVariants.{Unwritten as Empty, Byte as Octet, Frag}
use Rattle.sc_isa_image.specs.Lookups.{value_of}
use Rattle.sc_isa_image.specs.Stubs.{stub_address}
use Rattle.sc_isa_image.specs.declared.image.Image.{Image}
use Rattle.sc_objects.specs.declared.objects.Obj.{Obj}
use Rattle.sc_mem.specs.Flat.{place}
use Rattle.sc_mem.specs.Flat.{fresh as empty}
use Rattle.sc_meaning.specs.Behaviour.{Start, first_world}
use Rattle.sc_meaning.specs.Beside.{empty_memory}
use Rattle.sc_meaning.specs.Versions.{Text, births_of, callee_of}
use Rattle.sc_meaning.specs.World.{Frame, GoesOut, World, pass}
use Rattle.sc_like.specs.Alike.{Like, Shown, lineless}
use Rattle.sc_like.specs.Unseen.{TellsForms, form_of}
use Rattle.sc_mem_store.specs.Apart.{AreOnce}
use Rattle.sc_mixed.specs.Bridge.{is_code}
use Rattle.sc_mixed.specs.declared.calls.Lower.{Lower}
use Rattle.sc_mixed_means.specs.Owed.{CallsMean}
use Rattle.sc_mixed_means.specs.Stages.{Stage, texts_of}
use Rattle.sc_mixed_means.specs.Waiting.{AreStubsOf, IsCell, IsFit}
use Rattle.sc_program.specs.declared.storage.StaticId.{StaticId}
use Rattle.sc_compiled_frames.specs.Stubs.{stub_of}
use Rattle.sc_compiled_frames.specs.Words.{AreStubs, HeldWords}
use Rattle.sc_compiled_frames.specs.Words.{IsCell as IsWordCell}
use Rattle.sc_compiled_frames.specs.Worlds.{HoldsWords}
use Rattle.sc_compiled_frames.proofs.Living.{begins, nothing_there, empty_cell}
use Rattle.sc_compiled_frames.proofs.Stubs.{stubs_are}
use Rattle.sc_compiled_frames.proofs.Worlds.{no_blocks, tiled}

-- ---- nothing is there

-- a row of no blocks is as long as the count of its blocks
abbrev no_rows : ℕ → List (List ℕ)
no_rows n = replicate n []

abbrev no_row : List ℕ
no_row = []

as_many : (n k : ℕ) → length (slice_index_or (no_rows n) k no_row) ≡ slice_index (replicate n 0) k
as_many zero zero = refl
as_many zero (suc k) = refl
as_many (suc n) zero = refl
as_many (suc n) (suc k) = as_many n k

none_born : (id : StaticId) (ids : List StaticId) → ids ≡ [] → Contains ids id → ⊥
none_born id ids e x = no (subst (λ l. Contains l id) e x)
  where
    no : Contains [] id → ⊥
    no x = absurd (omega (arith, x.1))

-- ---- a first world

pub first_fit : (s : Start) (texts : List Text) (image : Image) (places : List (StaticId × ℕ)) → births_of texts ≡ [] → s.beside.memory ≡ Some (empty_memory s.stack s.heap) → s.heap ≤ 67108864 → s.stack ≤ 16777216 → AreOnce s.beside.functions → AreStubsOf image s.beside.functions → stub_address (length s.beside.functions) ≤ 2 ^ 32 → IsFit texts image places [] (pass GoesOut (first_world s))
first_fit s texts image places births there heap stack once stubs few =
    let words : HeldWords s.beside.functions (empty s.stack s.heap) [] = begins s.beside.functions s.heap s.stack (no_blocks s.heap) heap stack refl (tiled s.heap) in
    record {
      memory = empty_memory s.stack s.heap;
      is = there;
      of = record {
        safe = record {
          heap = heap;
          stack = stack;
          sized = words.held.safe.sized;
          bytes = refl;
          apart = λ i j o p l k n. absurd (nothing_there i o l.0);
          within = λ id o l. absurd (nothing_there id o l.0);
          stands = λ id o l. absurd (nothing_there id o l.0);
          tiled = tiled s.heap;
        };
        stack = refl;
        heap = refl;
        made = refl;
        free = λ k. as_many 29 k;
        cells = λ at c e. empty_cell (1048576 + s.heap + s.stack) (place (empty s.stack s.heap) at 1) c e;
        seated = λ id p e. absurd (nothing_there id p e);
        known = words.known;
      };
      stubs = stubs;
      few = few;
      holds = words.held.holds;
      apart = λ i j o p l k n. absurd (nothing_there i o l.0);
      below = λ id p e. absurd (nothing_there id p e);
      once = once;
      born = λ id x. absurd (none_born id (births_of texts) births x);
      stand = λ id o at e f. absurd (cc (e));
      above = tt;
      inner = omega arith;
      forms = refl;
      aligned = refl;
      framed = λ id p l low. absurd (nothing_there id p l.0);
    }

-- ---- words of a fit memory

pub same_cell : (table : List Obj) (c : Stored) → IsCell table c → IsWordCell table c
same_cell table Empty x = tt
same_cell table (Octet b) x = x
same_cell table (Frag whole tag k) x = x

abbrev pub fit_words : (texts : List Text) (image : Image) (places : List (StaticId × ℕ)) (lower : List Lower) (w : World) → IsFit texts image places lower w → HoldsWords w × AreStubs w.beside.functions (stub_of w.beside.functions)
fit_words texts image places lower w f = (
  record {
    memory = f.memory;
    there = f.is;
    words = record {
      held = record { holds = f.holds; blocks = f.memory.blocks; safe = f.of.safe };
      cells = λ at c e. same_cell f.memory.flat.objects c (f.of.cells at c e);
      seated = λ id p e. ((f.of.seated id p e).0, (f.of.seated id p e).1, (f.below id p e).1);
      known = f.of.known;
    };
  },
  stubs_are w.beside.functions f.once f.few,
)

-- ---- the forms of calls

lineless_forms : (fs : List Frame) → map form_of (map lineless fs) ≡ map form_of fs
lineless_forms [] = refl
lineless_forms (f ∷ fs) = ap (λ ks. f.form ∷ ks) (lineless_forms fs)

pub fit_forms : (texts : List Text) (image : Image) (places : List (StaticId × ℕ)) (lower : List Lower) (w v : World) → IsFit texts image places lower w → Like w v → TellsForms v
fit_forms texts image places lower w v f like =
    sym (ap (λ (s : Shown). s.forms) like.shown) ∙ f.forms ∙ sym (lineless_forms w.frames) ∙ ap (λ (x : World). map form_of x.frames) like.same ∙ lineless_forms v.frames

-- ---- no stub

no_stub : (image : Image) (key : Key) (stub : ℕ) → value_of image key ≡ None → value_of image key ≡ Some stub → ⊥
no_stub image key stub none some = no (sym none ∙ some)
  where
    no : None ≡ Some stub → ⊥
    no e = cc (e)

pub no_stubs : (s : Stage) → ((key : Key) → is_code (callee_of (texts_of s.past) key) ≡ true → value_of s.image key ≡ None) → CallsMean s
no_stubs s none n key xs c d w u v next code fit like x are alike late q given = absurd (no_stub s.image key x.stub (none key code) x.stands)
