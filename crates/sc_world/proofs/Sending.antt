-- What the program wrote grows with each step, and so with each go.
use Rattle.std.proofs.Common.{◌≡◌, ◌≤◌, ◌<◌, ◌+◌, ℕ, zero, suc, List, [], ◌∷◌, ◌++◌, length, refl, ap, sym, subst, ◌∙◌, arith, append_assoc, Option, Some, None, Result, Ok, Err}
use Rattle.std.proofs.lemmas.List.{append-nil}
use Rattle.std.specs.Prelude.{IfOk, MatchResult}
use Rattle.sc_meaning.specs.World.{World, Item, ComesBack}
use Rattle.sc_meaning.specs.Outcomes.{Ending, world_at}
use Rattle.sc_meaning.specs.Versions.{Text}
use Rattle.sc_meaning.specs.Laws.{Leads}
use Rattle.sc_meaning.proofs.Steps.{here, on}
use Rattle.sc_meaning.proofs.Trails.{trail-passed}
use Rattle.sc_interp_machine.specs.Runs as machine
use Rattle.sc_interp_machine.specs.Runs.{Caller, State, Runs, Makes, Answers, Ends}
use Rattle.sc_interp_laws.specs.Worlds as course
use Rattle.sc_interp_laws.proofs.RunSteps.{advance_leads}
use Rattle.sc_interp.specs.Steady.{alone, advance, ran}
use Rattle.sc_interp.specs.declared.going.Going.{Going}
use Rattle.sc_interp.specs.declared.stepped.Shown.{Shown}
use Rattle.sc_interp.specs.declared.stepped.Shown.TheVariants.{Nothing}
use Rattle.sc_interp_access.specs.declared.ended.Ended.{Ended}
use Rattle.sc_interp.specs.Ends.{end_of}
use Rattle.sc_interp.proofs.Unchanged.{quiet, present, same_step}
use Rattle.sc_interp_access.specs.declared.stop.Stop.{Stop}
use Rattle.sc_interp_access.specs.Gives.{ending_of}
use Rattle.sc_interp_world.specs.Outputs.{output, written_by}
use Rattle.sc_words.specs.declared.stop.StopAt.{StopAt}
use Rattle.sc_words.specs.declared.stop.Walk.{Walk}
use Rattle.sc_world.specs.declared.count.Count.{Count}
use Rattle.sc_world.specs.declared.course.Course.{Course}
use Rattle.sc_world.specs.declared.course.Course.TheVariants.{On, Over}
use Rattle.sc_world.specs.declared.halt.Halt.{Halt}
use Rattle.sc_world.specs.declared.halt.Halt.TheVariants as halting
use Rattle.sc_world.specs.declared.turn.Turned.{Turned}
use Rattle.sc_world.specs.declared.turn.Turned.TheVariants as turned
use Rattle.sc_world.specs.Standing.{Standing, state_of, standing, ended_so, world_in, world_of}
use Rattle.sc_world.specs.Wants.{Want}
use Rattle.sc_world.specs.Moves.{moved}
use Rattle.sc_world.specs.Goes.{GoneBy, rests_here, moves_on, Closes, stepped, with_status, Leaves, Goes, want_of}
use Rattle.sc_world.specs.Posts.{Posted, PostedSome}
use Rattle.sc_world.specs.Sends.{written, LeavesFew, SendsFirst, SendsTo, Sends, SendsSome, SomeGo}
use Rattle.sc_world.specs.Turns.{Comes, IsLeft, Onward, PostsTo, WaitsFew, standing_at}
use Rattle.sc_world.proofs.Courses.{world_there, goes_somewhere, Onto}
use Rattle.sc_world.proofs.Places.{in_world}
use Rattle.sc_world.proofs.Posting.{appends_none, posted_none, posted_grows, posted_some, some_grows}

output-append : (is js : List Item) → output (is ++ js) ≡ output is ++ output js
output-append [] js = refl
output-append (i ∷ is) js = ap (λ r. written_by i ++ r) (output-append is js) ∙ sym (append_assoc (written_by i) (output is) (output js))

-- these bytes begin those
abbrev Begins : List ℕ → List ℕ → Type 0
Begins xs ys = (more : List ℕ) × (ys ≡ xs ++ more)

leads_output : (w v : World) → Leads w v → Begins (output w.trail) (output v.trail)
leads_output w v l = (output l.0, ap (λ u. output u.trail) l.1 ∙ ap output (trail-passed l.0 w) ∙ output-append w.trail l.0)

same_world : (s : State) → course.world_of s ≡ world_of s
same_world (Runs doing ss env a cs w) = refl
same_world (Makes t v vs c cs w) = refl
same_world (Answers a cs w) = refl
same_world (Ends e) = refl

-- a step
step_leads : (texts : List Text) (s : State) → Leads (world_of s) (world_of (advance (alone texts) texts s))
step_leads texts s =
    let t : State = machine.advance (alone texts) s in
    subst (λ t. Leads (world_of s) (world_of t)) (same_step (alone texts) texts (quiet texts) (present texts) s)
    (subst (λ v. Leads (world_of s) v) (same_world t)
    (subst (λ w. Leads w (course.world_of t)) (same_world s) (advance_leads (alone texts) s)))

-- what ends a run where it rests writes nothing
status_output : (s : State) → output (world_of (with_status s)).trail ≡ output (world_of s).trail
status_output (Runs doing ss env a cs w) = refl
status_output (Makes t v vs c cs w) = refl
status_output (Answers a [] w) = output-append w.trail (ComesBack ∷ []) ∙ append-nil (output w.trail)
status_output (Answers a (c ∷ cs) w) = refl
status_output (Ends e) = refl

-- a go
ran_leads : (k : ℕ) (texts : List Text) (s : State) → Leads (world_of s) (world_of (ran k (alone texts) texts s))
ran_leads zero texts s = here (world_of s)
ran_leads (suc k) texts s =
    let t : State = advance (alone texts) texts s in
    on (world_of s) (world_of t) (world_of (ran k (alone texts) texts t)) (step_leads texts s) (ran_leads k texts t)

move_leads : (k : ℕ) (texts : List Text) (m : Standing) → Leads (world_of m.state) (world_of (moved k texts m).state)
move_leads k texts m =
    let t : State = ran k (alone texts) texts m.state in
    on (world_of m.state) (world_of t) (world_of (advance (alone texts) texts t)) (ran_leads k texts m.state) (step_leads texts t)

pub go_leads : (want : Want) (texts : List Text) (halt : Halt) (last m : Standing) → GoneBy texts want halt last m → Leads (world_of m.state) (world_of last.state)
go_leads want texts halt last x (rests_here m e at) = subst (λ n. Leads (world_of m.state) (world_of n.state)) (sym at) (here (world_of m.state))
go_leads want texts halt last x (moves_on m k small e silent rest) =
    on (world_of m.state) (world_of (moved k texts m).state) (world_of last.state) (move_leads k texts m) (go_leads want texts halt last (moved k texts m) rest)

go_begins : (want : Want) (texts : List Text) (halt : Halt) (last m : Standing) → GoneBy texts want halt last m → Begins (written m) (written last)
go_begins want texts halt last m go = leads_output (world_of m.state) (world_of last.state) (go_leads want texts halt last m go)

step_begins : (texts : List Text) (m next : Standing) → stepped texts m ≡ next → Begins (written m) (written next)
step_begins texts m next is = subst (λ n. Begins (written m) (written n)) is (leads_output (world_of m.state) (world_of (advance (alone texts) texts m.state)) (step_leads texts m.state))

-- what was posted of bytes that begin others
posted_on : (old new : Option (List ℕ)) (from to : ℕ) (xs ys : List ℕ) → Begins xs ys → Posted old new from to xs → Posted old new from to ys
posted_on old new from to xs ys b p = subst (Posted old new from to) (sym b.1) (posted_grows old new from to xs b.0 p)

some_on : (old new : Option (List ℕ)) (from : ℕ) (xs ys : List ℕ) → Begins xs ys → from ≤ length xs → PostedSome old new from xs → PostedSome old new from ys
some_on old new from xs ys b le p = subst (PostedSome old new from) (sym b.1) (some_grows old new from xs b.0 le p)

inside : (old new : Option (List ℕ)) (from to : ℕ) (xs : List ℕ) → Posted old new from to xs → from ≤ length xs
inside old new from to xs p =
    let order : from ≤ to = p.order in
    let inside : to ≤ length xs = p.inside in
    omega (arith, order, inside)

-- all that the program wrote is in its world
pub written_there : (g : Going) (x : Shown) (cs : List Caller) (w : World) (c : Count) → written (standing_at (state_of g cs w) x c) ≡ output w.trail
written_there g x cs w c = ap (λ v. output v.trail) (world_there g cs w)

same_standing : (a b : Standing) → Some a ≡ Some b → a ≡ b
same_standing a b p = cc

-- nothing of it was posted as the go began
pub posts_first : (known : Option (List ℕ)) (sent : ℕ) (bytes : List ℕ) → sent ≡ length bytes → Posted known known (length bytes) sent bytes
posts_first known sent bytes is = subst (λ n. Posted known known (length bytes) n bytes) (sym is) (posted_none known (length bytes) bytes (omega arith))

-- behind one more step
pub posts_step : (old new : Option (List ℕ)) (from to : ℕ) (texts : List Text) (g : Going) (x : Shown) (cs : List Caller) (w : World) (c : Count) (given : Result Shown Stop) (now : Shown) (g2 : Going) (ds : List Caller) (v : World) (n : Count) → Onward (stepped texts (standing_at (state_of g cs w) x c)) given g2 ds v n → given ≡ Ok now → Posted old new from to (output w.trail) → Posted old new from to (output v.trail)
posts_step old new from to texts g x cs w c given now g2 ds v n p is posted =
    let m : Standing = standing_at (state_of g cs w) x c in
    let next : Standing = standing_at (state_of g2 ds v) now n in
    subst (Posted old new from to) (written_there g2 now ds v n)
    (posted_on old new from to (written m) (written next) (step_begins texts m next (subst (λ r. Onward (stepped texts m) r g2 ds v n) is p))
    (subst (Posted old new from to) (sym (written_there g x cs w c)) posted))

-- Of some go what was written up to a place that it passes is the first of what it writes.
pub posts_over : (old new : Option (List ℕ)) (from to : ℕ) (want : Want) (texts : List Text) (first m : Standing) → Onto want texts first m → Posted old new from to (written m) → SomeGo texts want first (λ last. Posted old new from to (written last))
posts_over old new from to want texts first m onto posted =
    let go = goes_somewhere want texts m in
    (go.0, go.1, onto go.0 go.1 go.2, posted_on old new from to (written m) (written go.1) (go_begins want texts go.0 go.1 m go.2) posted)

some_over : (old new : Option (List ℕ)) (from : ℕ) (want : Want) (texts : List Text) (first m : Standing) → Onto want texts first m → from ≤ length (written m) → PostedSome old new from (written m) → SomeGo texts want first (λ last. PostedSome old new from (written last))
some_over old new from want texts first m onto le some =
    let go = goes_somewhere want texts m in
    (go.0, go.1, onto go.0 go.1 go.2, some_on old new from (written m) (written go.1) (go_begins want texts go.0 go.1 m go.2) le some)

-- the last step ends the run
pub posts_last : (old new : Option (List ℕ)) (from to : ℕ) (want : Want) (texts : List Text) (first : Standing) (g : Going) (x : Shown) (cs : List Caller) (w : World) (c : Count) (given : Result Shown Stop) (stop : Stop) (g2 : Going) (ds : List Caller) (v : World) (n : Count) → Onto want texts first (standing_at (state_of g cs w) x c) → Onward (stepped texts (standing_at (state_of g cs w) x c)) given g2 ds v n → given ≡ Err stop → Posted old new from to (output w.trail) → PostsTo old new from to want texts first v (Ok (turned.Over stop))
posts_last old new from to want texts first g x cs w c given stop g2 ds v n onto p is posted =
    let m : Standing = standing_at (state_of g cs w) x c in
    let there = subst (Posted old new from to) (sym (written_there g x cs w c)) posted in (
      λ e over. posted_on old new from to (written m) (written (standing_at (Ends e) Nothing n)) (step_begins texts m (standing_at (Ends e) Nothing n) (subst (λ r. Onward (stepped texts m) r g2 ds v n) is p e over)) there,
      posts_over old new from to want texts first m onto there,
    )

pub posts_cut : (old mid new : Option (List ℕ)) (from to : ℕ) (want : Want) (texts : List Text) (first : Standing) (g : Going) (x : Shown) (cs : List Caller) (w : World) (c : Count) → Onto want texts first (standing_at (state_of g cs w) x c) → Posted old mid from to (output w.trail) → PostedSome old new from (output w.trail) → SomeGo texts want first (λ last. PostedSome old new from (written last))
posts_cut old mid new from to want texts first g x cs w c onto posted some =
    let m : Standing = standing_at (state_of g cs w) x c in
    some_over old new from want texts first m onto
    (subst (λ bytes. from ≤ length bytes) (sym (written_there g x cs w c)) (inside old mid from to (output w.trail) posted))
    (subst (PostedSome old new from) (sym (written_there g x cs w c)) some)

-- what a go leaves
closed_written : (halt left : Halt) (last n : Standing) → Closes halt last left (Some n) → written n ≡ written last
closed_written halt left last n p = ap written (sym p.1) ∙ status_output last.state

ended_written : (r : Option Ending) (c : Count) (n : Standing) → Some n ≡ ended_so c r → (e : Ending) × (r ≡ Some e) × (output (world_at e).trail ≡ written n)
ended_written None c n p = absurd (cc)
ended_written (Some e) c n p = (e, refl, sym (ap written (same_standing n (standing_at (Ends e) Nothing c) p)))

pub leaves_by : (want : Want) (texts : List Text) (m : Standing) (t : Turned) (g : Going) (cs : List Caller) (w : World) (c : Count) (left : Halt) (after : Option Standing) → Comes texts want m t g cs w c → IsLeft t g cs w c left after → Leaves texts want m left after
leaves_by want texts m (turned.Rests halt) g cs w c left None p q = q
leaves_by want texts m (turned.Rests halt) g cs w c left (Some n) p q =
    (standing_at (state_of g cs w) Nothing c, subst (λ h. GoneBy texts want h (standing_at (state_of g cs w) Nothing c) m) (sym q.0) p, q.1)
leaves_by want texts m (turned.Over stop) g cs w c left None p q = q.0
leaves_by want texts m (turned.Over stop) g cs w c left (Some n) p q = over (ending_of stop w) refl q.1
  where
    over : (r : Option Ending) → ending_of stop w ≡ r → Some n ≡ ended_so c r → Leaves texts want m left (Some n)
    over None is at = absurd (cc)
    over (Some e) is at =
        (standing_at (Ends e) Nothing c, subst (λ h. GoneBy texts want h (standing_at (Ends e) Nothing c) m) (sym q.0) (p e is), sym (same_standing n (standing_at (Ends e) Nothing c) at))

pub sends_by : (old new : Option (List ℕ)) (from sent : ℕ) (want : Want) (texts : List Text) (m : Standing) (t : Turned) (g : Going) (cs : List Caller) (w : World) (c : Count) (left : Halt) (after : Option Standing) → from ≡ length (written m) → Comes texts want m t g cs w c → IsLeft t g cs w c left after → PostsTo old new from sent want texts m w (Ok t) → SendsTo old new want texts m sent after
sends_by old new from sent want texts m (turned.Rests halt) g cs w c left None is comes q posted =
    let last : Standing = standing_at (state_of g cs w) Nothing c in
    (halt, last, comes, subst (λ k. Posted old new k sent (written last)) is (subst (Posted old new from sent) (sym (written_there g Nothing cs w c)) posted))
sends_by old new from sent want texts m (turned.Rests halt) g cs w c left (Some n) is comes q posted =
    let last : Standing = standing_at (state_of g cs w) Nothing c in
    subst (λ k. Posted old new k sent (written n)) is
    (subst (Posted old new from sent) (sym (closed_written halt left last n q ∙ written_there g Nothing cs w c)) posted)
sends_by old new from sent want texts m (turned.Over stop) g cs w c left None is comes q posted =
    subst (λ k. SomeGo texts want m (λ last. Posted old new k sent (written last))) is posted.1
sends_by old new from sent want texts m (turned.Over stop) g cs w c left (Some n) is comes q posted =
    let e = ended_written (ending_of stop w) c n q.1 in
    subst (λ k. Posted old new k sent (written n)) is (subst (Posted old new from sent) e.2 (posted.0 e.0 e.1))

pub first_sends : (old new : Option (List ℕ)) (want : Want) (texts : List Text) (m : Standing) (from : ℕ) → from ≡ length (written m) → SomeGo texts want m (λ last. PostedSome old new from (written last)) → SendsFirst old new want texts m
first_sends old new want texts m from is some = subst (λ n. SomeGo texts want m (λ last. PostedSome old new n (written last))) is some

-- Fewer bytes wait than are posted, where the run is not over.
pub few_left : (t : Turned) (g : Going) (cs : List Caller) (w : World) (c : Count) (left : Halt) (after : Option Standing) (sent : ℕ) → IsLeft t g cs w c left after → WaitsFew t (output w.trail) sent → LeavesFew left sent after
few_left t g cs w c left None sent q few = tt
few_left (turned.Rests halt) g cs w c left (Some n) sent q few = λ goes_on.
    subst (λ bytes. length bytes < sent + 4096) (sym (closed_written halt left (standing_at (state_of g cs w) Nothing c) n q ∙ written_there g Nothing cs w c)) few
few_left (turned.Over stop) g cs w c left (Some n) sent q few = λ goes_on. absurd (goes_on q.0)

pub ended_few : (sent : ℕ) (after : Option Standing) → LeavesFew halting.Ended sent after
ended_few sent None = tt
ended_few sent (Some n) = λ goes_on. absurd (goes_on refl)

-- a go of a run that goes on
abbrev want_there : Want → ℕ → ℕ → Want
want_there want since before = record want { since = since; before = before }

module _ (P : Want → Type 0) (want : Want) (g : Going) (x : Shown) (cs : List Caller) (w : World) (c : Count) (at : want.since ≡ w.enters) (before : want.before ≡ c.turns) where
  pub wanted_there : P want → P (want_of want.stops want.walk want.turns (standing_at (state_of g cs w) x c))
  wanted_there p =
      subst (λ n. P (want_there want n c.turns)) (at ∙ sym (ap (λ v. v.enters) (world_there g cs w)))
      (subst (λ n. P (want_there want want.since n)) before p)

pub sends_so : (old new : Option (List ℕ)) (texts : List Text) (want : Want) (course : Course) (g : Going) (x : Shown) (cs : List Caller) (w : World) (c : Count) (sent : ℕ) (after : Option Standing) → course ≡ On g x → want.since ≡ w.enters → want.before ≡ c.turns → SendsTo old new want texts (standing_at (state_of g cs w) x c) sent after → Sends old new texts want.stops want.walk want.turns (standing course cs w c) sent after
sends_so old new texts want course g x cs w c sent after is at before p =
    subst (λ course. Sends old new texts want.stops want.walk want.turns (standing course cs w c) sent after) (sym is)
    (wanted_there (λ want. SendsTo old new want texts (standing_at (state_of g cs w) x c) sent after) want g x cs w c at before p)

pub sends_first_so : (old new : Option (List ℕ)) (texts : List Text) (want : Want) (course : Course) (g : Going) (x : Shown) (cs : List Caller) (w : World) (c : Count) → course ≡ On g x → want.since ≡ w.enters → want.before ≡ c.turns → SendsFirst old new want texts (standing_at (state_of g cs w) x c) → SendsSome old new texts want.stops want.walk want.turns (standing course cs w c)
sends_first_so old new texts want course g x cs w c is at before p =
    subst (λ course. SendsSome old new texts want.stops want.walk want.turns (standing course cs w c)) (sym is)
    (wanted_there (λ want. SendsFirst old new want texts (standing_at (state_of g cs w) x c)) want g x cs w c at before p)

-- a run that is over writes nothing
over_sends : (known : Option (List ℕ)) (texts : List Text) (stops : List StopAt) (walk : Walk) (turns sent : ℕ) (w : World) (c : Count) (r : Option Ending) → ((e : Ending) → r ≡ Some e → world_at e ≡ w) → sent ≡ length (output w.trail) → Sends known known texts stops walk turns (ended_so c r) sent (ended_so c r)
over_sends known texts stops walk turns sent w c None there is = appends_none known
over_sends known texts stops walk turns sent w c (Some e) there is = posts_first known sent (output (world_at e).trail) (is ∙ ap (λ v. length (output v.trail)) (sym (there e refl)))

-- what a go posted is the first of what the program writes in it
pub sends_some : (old new : Option (List ℕ)) (texts : List Text) (stops : List StopAt) (walk : Walk) (turns sent : ℕ) (r after : Option Standing) (halt : Halt) → Goes texts stops walk turns r halt after → Sends old new texts stops walk turns r sent after → SendsSome old new texts stops walk turns r
sends_some old new texts stops walk turns sent None after halt p q = q
sends_some old new texts stops walk turns sent (Some m) None halt p q = (q.0, q.1, q.2, posted_some old new (length (written m)) sent (written q.1) q.3)
sends_some old new texts stops walk turns sent (Some m) (Some n) halt p q =
    (halt, p.0, p.1, subst (PostedSome old new (length (written m))) (ap written (sym p.2) ∙ status_output p.0.state) (posted_some old new (length (written m)) sent (written n) q))

-- a run that is over writes nothing
ending_there : (x : Ended) (cs : List Caller) (w : World) (c : Count) (e : Ending) → end_of x w ≡ Some e → world_at e ≡ w
ending_there x cs w c e is = sym (in_world (Over x) cs w c (world_at e) (ap (λ r. world_in (ended_so c r)) is))

pub stays_silent : (known : Option (List ℕ)) (texts : List Text) (stops : List StopAt) (walk : Walk) (turns sent : ℕ) (course : Course) (x : Ended) (cs : List Caller) (w : World) (c : Count) → course ≡ Over x → sent ≡ length (output w.trail) → Sends known known texts stops walk turns (standing course cs w c) sent (standing (Over x) cs w c)
stays_silent known texts stops walk turns sent course x cs w c is at =
    subst (λ course. Sends known known texts stops walk turns (standing course cs w c) sent (standing (Over x) cs w c)) (sym is)
    (over_sends known texts stops walk turns sent w c (end_of x w) (ending_there x cs w c) at)

-- facts of a result that follow from others
pub if_ok : {A E : Type 0} (P Q : A → Type 0) (r : Result A E) → ((a : A) → P a → Q a) → IfOk r P → IfOk r Q
if_ok P Q (Ok a) f p = f a p
if_ok P Q (Err e) f p = tt

pub match_as : {A E : Type 0} (P Q : A → Type 0) (R S : E → Type 0) (r : Result A E) → ((a : A) → P a → Q a) → ((e : E) → R e → S e) → MatchResult r P R → MatchResult r Q S
match_as P Q R S (Ok a) f g p = f a p
match_as P Q R S (Err e) f g p = g e p
