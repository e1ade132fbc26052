-- Lines of lists as they are written by hand.
-- Bytes by their codes: 34 is a quote, 39 an apostrophe, 92 a backslash.
use Rattle.std.specs.Prelude.{◌≡◌, [], ◌∷◌, ◌++◌, codes, None, Some}
use Rattle.iocm_types.specs.declared.link.Link.TheVariants as link
use Rattle.iocm_types.specs.declared.path_kind.PathKind.TheVariants.{Dedicated, Shared, Reconfigurable}
use Rattle.iocm_list_lines.specs.Devices.{device_line}
use Rattle.iocm_list_lines.specs.Images.{image_line}
use Rattle.iocm_list_lines.specs.Paths.{path_line}
use Rattle.iocm_list_lines.specs.Units.{unit_line}

-- a channel path with each text, one with none that nobody uses, and one with a text that needs escapes
pub record PathsAsWorked : Type 0 where
  pub each : path_line (record {
    css = 0;
    number = 0x40;
    kind = Shared;
    texts = record {
      channel_type = Some (codes "FC");
      pchid = Some (codes "120");
      vchid = Some (codes "7E0");
      aid = Some (codes "08");
      port = Some (codes "1");
      switch = Some (codes "65");
    };
    devices = 128;
    online = codes "A01" ∷ codes "A02" ∷ [];
    offline = codes "A03" ∷ [];
    units = 0x2000 ∷ 0xFFFE ∷ [];
  })
      ≡ codes "{\"AID\":\"08\",\"PCHID\":\"120\",\"PORT\":\"1\",\"SWITCH\":\"65\",\"TYPE\":\"FC\","
      ++ (codes "\"VCHID\":\"7E0\",\"css\":0,\"devices\":128,\"offline\":[\"A03\"],\"online\":[\"A01\",\"A02\"],"
      ++ codes "\"path\":\"40\",\"type\":\"path\",\"units\":[\"2000\",\"FFFE\"],\"use\":\"shared\"}\n")
  pub none : path_line (record {
    css = 5;
    number = 0xFF;
    kind = Dedicated;
    texts = record { channel_type = None; pchid = None; vchid = None; aid = None; port = None; switch = None };
    devices = 0;
    online = [];
    offline = [];
    units = [];
  })
      ≡ codes "{\"AID\":null,\"PCHID\":null,\"PORT\":null,\"SWITCH\":null,\"TYPE\":null,\"VCHID\":null,"
      ++ (codes "\"css\":5,\"devices\":0,\"offline\":[],\"online\":[],\"path\":\"FF\",\"type\":\"path\","
      ++ codes "\"units\":[],\"use\":\"dedicated\"}\n")
  pub escaped : path_line (record {
    css = 1;
    number = 3;
    kind = Reconfigurable;
    texts = record {
      channel_type = Some (39 ∷ 34 ∷ 92 ∷ 39 ∷ []);
      pchid = None;
      vchid = None;
      aid = None;
      port = None;
      switch = Some [];
    };
    devices = 1;
    online = [];
    offline = codes "LPA" ∷ [];
    units = 1 ∷ [];
  })
      ≡ codes "{\"AID\":null,\"PCHID\":null,\"PORT\":null,\"SWITCH\":\"\",\"TYPE\":\"'\\\"\\\\'\",\"VCHID\":null,"
      ++ (codes "\"css\":1,\"devices\":1,\"offline\":[\"LPA\"],\"online\":[],\"path\":\"03\",\"type\":\"path\","
      ++ codes "\"units\":[\"0001\"],\"use\":\"reconfigurable\"}\n")

-- a control unit with a long link, a short one, and none; and one without anything but its number
pub record UnitsAsWorked : Type 0 where
  pub each : unit_line (record {
    number = 0x2000;
    unit_type = Some (codes "2107");
    cuadd = Some 0x0A;
    addresses = record { start = 0; count = 256 } ∷ record { start = 0x20; count = 1 } ∷ [];
    paths = record { css = 0; path = 0x40; link = Some (link.Long 0x6512) }
        ∷ record { css = 0; path = 0x41; link = Some (link.Short 0x1A) }
        ∷ record { css = 1; path = 0xFE; link = None } ∷ [];
    devices = 66;
    ranges = record { set = 0; first = 0x2000; last = 0x203F } ∷ record { set = 1; first = 0x20C0; last = 0x20C1 }
        ∷ record { set = 0; first = 0x1D0F; last = 0x1D0F } ∷ [];
  })
      ≡ codes "{\"UNIT\":\"2107\",\"cuadd\":\"0A\",\"devices\":66,\"paths\":[{\"css\":0,\"link\":\"6512\",\"path\":\"40\"},"
      ++ (codes "{\"css\":0,\"link\":\"1A\",\"path\":\"41\"},{\"css\":1,\"path\":\"FE\"}],"
      ++ (codes "\"ranges\":[\"2000-203F\",\"1.20C0-20C1\",\"1D0F\"],\"type\":\"unit\",\"unit\":\"2000\","
      ++ codes "\"unitadd\":[{\"count\":256,\"first\":\"00\"},{\"count\":1,\"first\":\"20\"}]}\n"))
  pub none : unit_line (record {
    number = 0x1D;
    unit_type = None;
    cuadd = None;
    addresses = [];
    paths = [];
    devices = 0;
    ranges = [];
  })
      ≡ codes "{\"UNIT\":null,\"cuadd\":null,\"devices\":0,\"paths\":[],\"ranges\":[],\"type\":\"unit\","
      ++ codes "\"unit\":\"001D\",\"unitadd\":[]}\n"

-- devices that two images see, and one that none sees
pub record DevicesAsWorked : Type 0 where
  pub each : device_line (record {
    set = 1;
    first = 0x20C0;
    count = 64;
    device_type = Some (codes "3390A");
    units = 0x2000 ∷ 0x2100 ∷ [];
    unit_address = 0xC0;
    paths = record { css = 0; path = 0x40 } ∷ record { css = 1; path = 3 } ∷ [];
    images = record { image = record { css = 0; mif = 15 }; name = codes "A01"; installed = 8; online = 2 }
        ∷ record { image = record { css = 1; mif = 1 }; name = codes "B"; installed = 1; online = 0 } ∷ [];
  })
      ≡ codes "{\"UNIT\":\"3390A\",\"address\":\"C0\",\"count\":64,\"first\":\"20C0\","
      ++ (codes "\"images\":[{\"image\":\"0.F\",\"installed\":8,\"name\":\"A01\",\"online\":2},"
      ++ (codes "{\"image\":\"1.1\",\"installed\":1,\"name\":\"B\",\"online\":0}],\"last\":\"20FF\","
      ++ (codes "\"paths\":[{\"css\":0,\"path\":\"40\"},{\"css\":1,\"path\":\"03\"}],\"set\":1,\"type\":\"devices\","
      ++ codes "\"units\":[\"2000\",\"2100\"]}\n")))
  pub alone : device_line (record {
    set = 0;
    first = 0xFFFF;
    count = 1;
    device_type = None;
    units = [];
    unit_address = 0xFF;
    paths = [];
    images = [];
  })
      ≡ codes "{\"UNIT\":null,\"address\":\"FF\",\"count\":1,\"first\":\"FFFF\",\"images\":[],\"last\":\"FFFF\","
      ++ codes "\"paths\":[],\"set\":0,\"type\":\"devices\",\"units\":[]}\n"

-- an image, and one that has nothing
pub record ImagesAsWorked : Type 0 where
  pub each : image_line (record {
    image = record { css = 0; mif = 2 };
    name = codes "LPB";
    paths = 6;
    online = 5;
    devices = 199;
    no_path = 4;
    one_path = 64;
    numbers = record { set = 0; used = 167; limit = 65280 } ∷ record { set = 1; used = 64; limit = 65535 } ∷ [];
  })
      ≡ codes "{\"devices\":199,\"image\":\"0.2\",\"name\":\"LPB\",\"nopath\":4,"
      ++ (codes "\"numbers\":[{\"limit\":65280,\"set\":0,\"used\":167},{\"limit\":65535,\"set\":1,\"used\":64}],"
      ++ codes "\"onepath\":64,\"online\":5,\"paths\":6,\"type\":\"image\"}\n")
  pub none : image_line (record {
    image = record { css = 5; mif = 15 };
    name = codes "A";
    paths = 0;
    online = 0;
    devices = 0;
    no_path = 0;
    one_path = 0;
    numbers = [];
  })
      ≡ codes "{\"devices\":0,\"image\":\"5.F\",\"name\":\"A\",\"nopath\":0,\"numbers\":[],\"onepath\":0,\"online\":0,"
      ++ codes "\"paths\":0,\"type\":\"image\"}\n"

pub record LinesAsWorked : Type 0 where
  pub paths : PathsAsWorked
  pub units : UnitsAsWorked
  pub devices : DevicesAsWorked
  pub images : ImagesAsWorked
