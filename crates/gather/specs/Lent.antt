-- What is promised of the tables that a look-up is lent, in one piece (document 01, items 4 to 9).
use Rattle.std.specs.Prelude.{◌≡◌, length}
use Rattle.rules.specs.declared.Location.{Location}
use Rattle.rules.specs.declared.State.{State}
use Rattle.rules.specs.Answering.{Reply}
use Rattle.rules.specs.Plans.{Plan}
use Rattle.rules.specs.Tables.{plan_of}
use Rattle.walk.specs.declared.LentPlan.{LentPlan}
use Rattle.gather.specs.declared.tables.Tables.{Tables}
use Rattle.gather.specs.Regions.{Enough, LookSound, LookedUp}

-- the plan in them
abbrev pub plan_in : State → Tables → Plan
plan_in state tables = plan_of state tables.corners.now tables.rings.now tables.polygons.now

-- none is shorter than the state says
abbrev pub EnoughIn : State → Tables → Type 0
EnoughIn state tables = Enough state (length tables.corners.now) (length tables.rings.now) (length tables.polygons.now) (length tables.boxes.now) (length tables.parts.now) (length tables.edges.now)

-- they are sound
abbrev pub SoundIn : State → Tables → Type 0
SoundIn state tables = LookSound state tables.corners.now tables.rings.now tables.polygons.now tables.boxes.now tables.parts.now tables.edges.now

-- a look-up in them
abbrev pub LookedIn : State → Tables → Location → Reply → Type 0
LookedIn state tables place r = LookedUp state tables.corners.now tables.rings.now tables.polygons.now tables.boxes.now tables.parts.now tables.edges.now place r

-- the same tables as a walk is lent them: all but that of the polygons
abbrev pub lent_by : State → Tables → LentPlan
lent_by state tables =
    record {
      corners = tables.corners;
      rings = tables.rings;
      boxes = tables.boxes;
      parts = tables.parts;
      edges = tables.edges;
      n = state.corners;
      count = state.rings;
    }
