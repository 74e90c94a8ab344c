-- What an event finds: the message in its slot means something true, names what is there, and the pair that it looks at is the view's.
use Rattle.std.specs.Prelude.{ℕ, ◌≤◌, ◌<◌, ◌≡◌, true, get_or, set, Some, Option}
use Rattle.std.proofs.Common.{sym, ap, ◌∙◌, subst}
use Rattle.std.proofs.lemmas.List.{set-get_or}
use Rattle.method.specs.declared.Body.{Body}
use Rattle.method.specs.declared.Message.{Message}
use Rattle.rack.specs.declared.Settings.{Settings}
use Rattle.rack.specs.declared.Rack.{Rack}
use Rattle.stamps.specs.Stamp.{fresh_pair}
use Rattle.method.specs.declared.Event.{Event}
use Rattle.method.specs.declared.Plan.{Plan}
use Rattle.rack.specs.Places.{pair_place}
use Rattle.rack.specs.Sound.{body_fits, held_fits, quorums_of}
use Rattle.rack.specs.Looking.{slot_of, place_in}
use Rattle.rack.specs.laws.SoundLaws.{Named, named}
use Rattle.rack.specs.laws.Decided.{Looked}
use Rattle.rack.specs.Looking.{looked_held, looked_client, looked_place, looked_pair}
use Rattle.protocol.specs.View.{Setting, View}
use Rattle.promise.specs.Setting.{setting_of}
use Rattle.promise.specs.Tie.{pair_of, Means, OnWire, Holding, op_of}
use Rattle.promise.proofs.theorems.Tied.{Tie}

place_of : (h : Option Message) (m : Message) → h ≡ Some m → place_in h ≡ pair_place m.replica.0 m.cell.0
unfolding place_in
place_of h m e = rw e

fits_of : (z : Settings) (h : Option Message) (m : Message) → h ≡ Some m → held_fits z h ≡ true → Named z m
unfolding held_fits
fits_of z h m e f = named z m (rw e at f)

-- the slot held message m with body b, and it is client c's
pub record Got (c : ℕ) (held : Option Message) (m : Message) (b : Body) : Type 0 where
  pub here : held ≡ Some m
  pub client : m.client.0 ≡ c
  pub body : m.body ≡ b

-- What is known of a message that was got, of the event's client and with body b.
pub record Found (r : Rack) (e : Event) (v : View) (name : ℕ → ℕ → ℕ) (m : Message) (b : Body) : Type 0 where
  -- it names what is there
  pub named : Named r.settings m
  pub fits : body_fits r.settings b ≡ true
  -- its operation number is one that the client has had, and it means something true
  pub op : m.op ≤ op_of r (looked_client r e)
  pub means : Means (setting_of (quorums_of r.settings)) v (name (looked_client r e) m.op) m.replica.0 m.cell.0 b
  -- the pair that the event looks at is that of its replica for its cell
  pub place : looked_place r e ≡ pair_place m.replica.0 m.cell.0
  pub pair : v.pair m.replica.0 m.cell.0 ≡ pair_of (looked_pair r e)

pub found : (r : Rack) (e : Event) (v : View) (name : ℕ → ℕ → ℕ) (m : Message) (b : Body) → Tie r v name → Looked r e
    → Got (looked_client r e) (looked_held r e) m b → Found r e v name m b
found r e v name m b t l g =
    record {
      named = n;
      fits = subst (λ (x : Body). body_fits r.settings x ≡ true) g.body n.body;
      op = subst (λ (c : ℕ). m.op ≤ op_of r c) g.client on.0;
      means = subst (Means S v (name (looked_client r e) m.op) m.replica.0 m.cell.0) g.body
          (subst (λ (c : ℕ). Means S v (name c m.op) m.replica.0 m.cell.0 m.body) g.client on.1);
      place = at;
      pair = t.pairs m.replica.0 m.cell.0 n.replica n.cell ∙ ap (λ (i : ℕ). pair_of (get_or r.pairs i fresh_pair)) (sym at);
    }
  where
    S : Setting
    S = setting_of (quorums_of r.settings)

    n : Named r.settings m
    n = fits_of r.settings (looked_held r e) m g.here l.held

    on : OnWire S v name (op_of r) m
    on = subst (Holding (OnWire S v name (op_of r))) g.here (t.wire (slot_of e))

    at : looked_place r e ≡ pair_place m.replica.0 m.cell.0
    at = place_of (looked_held r e) m g.here

-- a pair that stays leaves the view's pairs as they are
pub pairs_same : (r : Rack) (e : Event) (p : Plan) (v : View) (name : ℕ → ℕ → ℕ) → Tie r v name → p.pair ≡ looked_pair r e
    → (k x : ℕ) → k < r.settings.replicas → x < r.settings.cells → v.pair k x ≡ pair_of (get_or (set r.pairs (looked_place r e) p.pair) (pair_place k x) fresh_pair)
pairs_same r e p v name t q k x hk hx = rw (q, set-get_or r.pairs (looked_place r e) fresh_pair) (t.pairs k x hk hx)
